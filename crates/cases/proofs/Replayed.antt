-- Acts with the answers that are computed, and that acts which have those answers hold.
use Rattle.std.proofs.Common.{◌≡◌, Bool, true, ◌&&◌, List, [], ◌∷◌, map, length, sym, refl, subst}
use Rattle.std.proofs.lemmas.Bool.{and_parts}
use Rattle.std.specs.List.{AllByRecursion}
use Rattle.structure.specs.Nodes.{node_at}
use Rattle.table.specs.declared.state.Table.{Table}
use Rattle.table.specs.Tables.{cleared}
use Rattle.table.specs.Changes.{rows_at}
use Rattle.reach.specs.declared.line.Line.{Line}
use Rattle.reach.specs.Scenes.{scene_of}
use Rattle.cases.specs.Plays.{Box, Act, Act.load, Act.start, Act.command, Act.check, Act.remove, Act.release, Act.step, Act.take, Act.lawful, Act.node, Act.rows, Plays, Settled, Case, empty_box, blank_memory, Holds}
use Rattle.cases.proofs.Checks.{every}
use Rattle.cases.proofs.Shown.{lawful_behind, lawful_is}
use Rattle.cases.proofs.Answered.{load_out, load_is, load_only, start_out, start_is, start_only, command_out, command_is, command_only, check_out, check_is, check_only, remove_out, release_out}
use Rattle.cases.proofs.Stepped.{Same, step_out, step_box, step_is, step_only, first_in, take_box, take_sure, take_is, take_only}

-- the same acts with the answers that are computed
abbrev pub replayed : Table → Box → List Act → List Act
replayed t o [] = []
replayed t o (load words answer ∷ acts) = load words (load_out t words).said ∷ replayed (load_out t words).table o acts
replayed t o (start lane place tick answer ∷ acts) = start lane place tick (start_out t lane place tick).said ∷ replayed (start_out t lane place tick).table o acts
replayed t o (command block word answer ∷ acts) = command block word (command_out t block word).said ∷ replayed (command_out t block word).table o acts
replayed t o (check pattern answer ∷ acts) = check pattern (check_out t pattern).said ∷ replayed (check_out t pattern).table o acts
replayed t o (remove pattern answer ∷ acts) = remove pattern (remove_out t pattern).said ∷ replayed (remove_out t pattern).table o acts
replayed t o (release pattern answer ∷ acts) = release pattern (release_out t pattern).said ∷ replayed (release_out t pattern).table o acts
replayed t o (step lane answer ∷ acts) = step lane (step_out t o lane).said ∷ replayed (step_out t o lane).table (step_box t o lane) acts
replayed t o (take answer ∷ acts) = take (first_in o.messages) ∷ replayed t (take_box o) acts
replayed t o (lawful chain ∷ acts) = lawful chain ∷ replayed t o acts
replayed t o (node place there ∷ acts) = node place (node_at t.nodes place) ∷ replayed t o acts
replayed t o (rows place there ∷ acts) = rows place (rows_at t place) ∷ replayed t o acts

-- the grounds of each answer stood up
abbrev pub all_sure : Table → Box → List Act → Bool
all_sure t o [] = true
all_sure t o (load words answer ∷ acts) = (load_out t words).sure && all_sure (load_out t words).table o acts
all_sure t o (start lane place tick answer ∷ acts) = (start_out t lane place tick).sure && all_sure (start_out t lane place tick).table o acts
all_sure t o (command block word answer ∷ acts) = (command_out t block word).sure && all_sure (command_out t block word).table o acts
all_sure t o (check pattern answer ∷ acts) = (check_out t pattern).sure && all_sure (check_out t pattern).table o acts
all_sure t o (remove pattern answer ∷ acts) = (remove_out t pattern).sure && all_sure (remove_out t pattern).table o acts
all_sure t o (release pattern answer ∷ acts) = (release_out t pattern).sure && all_sure (release_out t pattern).table o acts
all_sure t o (step lane answer ∷ acts) = (step_out t o lane).sure && all_sure (step_out t o lane).table (step_box t o lane) acts
all_sure t o (take answer ∷ acts) = take_sure o && all_sure t (take_box o) acts
all_sure t o (lawful chain ∷ acts) = lawful_behind (scene_of t) [] chain && all_sure t o acts
all_sure t o (node place there ∷ acts) = all_sure t o acts
all_sure t o (rows place there ∷ acts) = all_sure t o acts

-- ### they come so

pub replay_plays : (t : Table) (o : Box) (acts : List Act) → all_sure t o acts ≡ true → (memory : List Line) → length memory ≡ 512 → Plays t o memory (replayed t o acts)
replay_plays t o [] h memory long = tt
replay_plays t o (load words answer ∷ acts) h memory long =
    let a = and_parts (load_out t words).sure _ h in
    ((load_out t words).table, load_is t words a.0, replay_plays (load_out t words).table o acts a.1 memory long)
replay_plays t o (start lane place tick answer ∷ acts) h memory long =
    let a = and_parts (start_out t lane place tick).sure _ h in
    let c = start_is t memory long lane place tick a.0 in
    ((start_out t lane place tick).table, c.0, c.2, replay_plays (start_out t lane place tick).table o acts a.1 c.0 c.1)
replay_plays t o (command block word answer ∷ acts) h memory long =
    let a = and_parts (command_out t block word).sure _ h in
    let c = command_is t memory long block word a.0 in
    ((command_out t block word).table, c.0, c.2, replay_plays (command_out t block word).table o acts a.1 c.0 c.1)
replay_plays t o (check pattern answer ∷ acts) h memory long =
    let a = and_parts (check_out t pattern).sure _ h in
    let c = check_is t pattern memory long a.0 in
    ((check_out t pattern).table, c.0, c.2, replay_plays (check_out t pattern).table o acts a.1 c.0 c.1)
replay_plays t o (remove pattern answer ∷ acts) h memory long =
    let a = and_parts (remove_out t pattern).sure _ h in
    ((remove_out t pattern).table, (refl, refl), replay_plays (remove_out t pattern).table o acts a.1 memory long)
replay_plays t o (release pattern answer ∷ acts) h memory long =
    let a = and_parts (release_out t pattern).sure _ h in
    ((release_out t pattern).table, (refl, refl), replay_plays (release_out t pattern).table o acts a.1 memory long)
replay_plays t o (step lane answer ∷ acts) h memory long =
    let a = and_parts (step_out t o lane).sure _ h in
    ((step_out t o lane).table, step_box t o lane, step_is t o lane a.0, replay_plays (step_out t o lane).table (step_box t o lane) acts a.1 memory long)
replay_plays t o (take answer ∷ acts) h memory long =
    (take_box o, take_is o, replay_plays t (take_box o) acts (and_parts (take_sure o) _ h).1 memory long)
replay_plays t o (lawful chain ∷ acts) h memory long =
    let a = and_parts (lawful_behind (scene_of t) [] chain) _ h in
    (lawful_is (scene_of t) chain a.0, replay_plays t o acts a.1 memory long)
replay_plays t o (node place there ∷ acts) h memory long = (refl, replay_plays t o acts h memory long)
replay_plays t o (rows place there ∷ acts) h memory long = (refl, replay_plays t o acts h memory long)

-- ### and in no other way, also at another outlet that has the same numbers

pub replay_settled : (t : Table) (o : Box) (acts : List Act) → all_sure t o acts ≡ true → (left : Box) → Same o left
    → (memory : List Line) → length memory ≡ 512 → Settled t left memory (replayed t o acts)
replay_settled t o [] h left alike memory long = tt
replay_settled t o (load words answer ∷ acts) h left alike memory long = λ other then made.
    let a = and_parts (load_out t words).sure _ h in
    let only = load_only t words a.0 other then made in
    (only.0, subst (λ u. Settled u left memory (replayed (load_out t words).table o acts)) only.1 (replay_settled (load_out t words).table o acts a.1 left alike memory long))
replay_settled t o (start lane place tick answer ∷ acts) h left alike memory long = λ other then after made.
    let a = and_parts (start_out t lane place tick).sure _ h in
    let only = start_only t memory long lane place tick a.0 other then after made in
    (only.0, subst (λ u. Settled u left after (replayed (start_out t lane place tick).table o acts)) only.1 (replay_settled (start_out t lane place tick).table o acts a.1 left alike after only.2))
replay_settled t o (command block word answer ∷ acts) h left alike memory long = λ other then after made.
    let a = and_parts (command_out t block word).sure _ h in
    let only = command_only t memory long block word a.0 other then after made in
    (only.0, subst (λ u. Settled u left after (replayed (command_out t block word).table o acts)) only.1 (replay_settled (command_out t block word).table o acts a.1 left alike after only.2))
replay_settled t o (check pattern answer ∷ acts) h left alike memory long = λ other then after made.
    let a = and_parts (check_out t pattern).sure _ h in
    let only = check_only t pattern memory long a.0 other then after made in
    (only.0, subst (λ u. Settled u left after (replayed (check_out t pattern).table o acts)) only.1 (replay_settled (check_out t pattern).table o acts a.1 left alike after only.2))
replay_settled t o (remove pattern answer ∷ acts) h left alike memory long = λ other then made.
    let a = and_parts (remove_out t pattern).sure _ h in
    (made.0, subst (λ u. Settled u left memory (replayed (remove_out t pattern).table o acts)) (sym made.1) (replay_settled (remove_out t pattern).table o acts a.1 left alike memory long))
replay_settled t o (release pattern answer ∷ acts) h left alike memory long = λ other then made.
    let a = and_parts (release_out t pattern).sure _ h in
    (made.0, subst (λ u. Settled u left memory (replayed (release_out t pattern).table o acts)) (sym made.1) (replay_settled (release_out t pattern).table o acts a.1 left alike memory long))
replay_settled t o (step lane answer ∷ acts) h left alike memory long = λ other then after made.
    let a = and_parts (step_out t o lane).sure _ h in
    let only = step_only t o left lane alike other then after a.0 made in
    (only.0, subst (λ u. Settled u after memory (replayed (step_out t o lane).table (step_box t o lane) acts)) only.1 (replay_settled (step_out t o lane).table (step_box t o lane) acts a.1 after only.2 memory long))
replay_settled t o (take answer ∷ acts) h left alike memory long = λ other after made.
    let a = and_parts (take_sure o) _ h in
    let only = take_only o left after other alike a.0 made in
    (only.0, replay_settled t (take_box o) acts a.1 after only.1 memory long)
replay_settled t o (lawful chain ∷ acts) h left alike memory long =
    let a = and_parts (lawful_behind (scene_of t) [] chain) _ h in
    (lawful_is (scene_of t) chain a.0, replay_settled t o acts a.1 left alike memory long)
replay_settled t o (node place there ∷ acts) h left alike memory long = (refl, replay_settled t o acts h left alike memory long)
replay_settled t o (rows place there ∷ acts) h left alike memory long = (refl, replay_settled t o acts h left alike memory long)

-- ### cases

abbrev pub replayed_case : Case → Case
replayed_case case = record { capacity = case.capacity; acts = replayed cleared (empty_box case.capacity) case.acts }

abbrev pub sure_case : Case → Bool
sure_case case = all_sure cleared (empty_box case.capacity) case.acts

replay_holds : (case : Case) → sure_case case ≡ true → Holds (replayed_case case)
replay_holds case h =
    let o = empty_box case.capacity in
    record {
      plays = replay_plays cleared o case.acts h blank_memory refl;
      settled = replay_settled cleared o case.acts h o (record { each = λ x. refl; all = refl; fixed = refl }) blank_memory refl;
    }

replays_hold : (cs : List Case) → every sure_case cs ≡ true → AllByRecursion Holds (map replayed_case cs)
replays_hold [] h = tt
replays_hold (case ∷ cs) h =
    let a = and_parts (sure_case case) (every sure_case cs) h in
    (replay_holds case a.0, replays_hold cs a.1)

-- cases whose answers are those that are computed, on grounds that stood up, hold
pub all_hold : (cs : List Case) → every sure_case cs ≡ true → map replayed_case cs ≡ cs → AllByRecursion Holds cs
all_hold cs h same = subst (AllByRecursion Holds) same (replays_hold cs h)
