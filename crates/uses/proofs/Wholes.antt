-- What hangs together in a table, and which changes of the table keep it.
use Rattle.std.proofs.Common.{◌≡◌, ℕ, zero, suc, ◌<◌, ◌≤◌, Bool, true, false, List, [], ◌∷◌, length, get_or, set, replicate, Some, None, Ok, Option, sym, refl, ap, ◌∙◌, subst, ⊎_elim, arith, length-set}
use Rattle.std.proofs.ByRecursion.{All-set}
use Rattle.std.proofs.lemmas.List.{take_all}
use Rattle.words.specs.declared.node.Entry.{Entry}
use Rattle.words.specs.declared.node.Node.{Node}
use Rattle.rows.specs.declared.plain.PlainRow.{PlainRow}
use Rattle.lanes.specs.declared.lane.Lane.{Lane}
use Rattle.lanes.specs.declared.lane.LaneState.{LaneState}
use Rattle.lanes.specs.Lanes.{lane_at, idle_lane}
use Rattle.image.specs.Nodes.{AllowedPlace, AllowedNode, image_words, live}
use Rattle.image.specs.Laws.{ReadsBack}
use Rattle.image.specs.Reading.{read_image}
use Rattle.image.proofs.Run.{all_accepted}
use Rattle.each.specs.Each.{zipped}
use Rattle.structure.specs.Nodes.{node_at}
use Rattle.table.specs.declared.state.Rows.{Rows}
use Rattle.table.specs.declared.state.Table.{Table}
use Rattle.table.specs.Tables.{cleared, empty_rows, over, fresh, loaded, in_pattern, marked, without, cleaned, emptied}
use Rattle.table.specs.Loading.{Loads}
use Rattle.table.specs.Laws.{Sound}
use Rattle.table.specs.Changes.{rows_at, row_of, is_urgent, lane_changed, state_changed, node_changed, rows_changed, check_changed, queued}
use Rattle.table.proofs.Keeps.{cleared_sound, emptied_sound, zipped_long, writes_loaded}
use Rattle.reach.proofs.Sets.{at_set}
use Rattle.steps.specs.Limits.{limit}
use Rattle.calls.specs.Refusals.{may_wait}
use Rattle.uses.specs.Law.{InRange, Orderly, Whole}
use Rattle.uses.proofs.Turning.{Alike, alike_self, alike_flawless}
use Rattle.uses.proofs.WholeRows.{RowWhole, RowsWhole, rows_empty, rows_joined, rows_forgotten, rows_whole_at}

-- a lane is on a place of the table, with its tick and its count within their limit
abbrev pub LaneWhole : Lane → Type 0
LaneWhole lane = InRange lane.state × (lane.sent ≤ limit)

-- Whole without what follows from the rest, and with the sizes
pub record KeptWhole (t : Table) : Type 0 where
  pub sound : Sound t
  pub size : length t.rows ≡ 512
  pub lanes : (lane : ℕ) → LaneWhole (lane_at t.lanes lane)
  pub rows : (place : ℕ) → RowsWhole (node_at t.nodes place) (rows_at t place)

-- ### what is written loads

module _ (t : Table) (s : Sound t) where
  abbrev words_of : List ℕ
  words_of = image_words t.nodes

  reads : ReadsBack t.nodes (Ok (length words_of)) words_of
  reads proper n e =
      let long : length words_of ≡ n = cc in
      ap read_image (take_all n words_of (omega arith)) ∙ all_accepted words_of (record { places = t.nodes; nodes = live t.nodes }) (record { proper = proper; words = refl; count = refl })

  written_loads : Loads cleared words_of (Ok (live t.nodes)) (loaded cleared t.nodes) × ((loaded cleared t.nodes).nodes ≡ t.nodes)
  written_loads =
      let back = writes_loaded t (Ok (length words_of)) words_of reads s (length words_of) refl in
      (subst (λ l. Loads cleared l (Ok (live t.nodes)) (loaded cleared t.nodes)) (take_all (length words_of) words_of (omega arith)) back.0, back.1)

row_orderly : (t : Table) (place : ℕ) (row : PlainRow) → RowWhole (node_at t.nodes place) row → Orderly t place row
row_orderly t place row w = record { few = w.few; blank = w.blank; listed = w.listed }

pub whole_of : (t : Table) → KeptWhole t → Whole t
whole_of t k = record {
  sound = k.sound;
  loads = written_loads t k.sound;
  lanes = k.lanes;
  urgent = λ place. row_orderly t place (rows_at t place).urgent (k.rows place).urgent;
  plain = λ place. row_orderly t place (rows_at t place).plain (k.rows place).plain;
}

-- ### a cleared table

pub all_same : {X : Type 0} (n i : ℕ) (x : X) → get_or (replicate n x) i x ≡ x
all_same zero i x = refl
all_same (suc n) zero x = refl
all_same (suc n) (suc i) x = all_same n i x

pub cleared_whole : KeptWhole cleared
cleared_whole = record {
  sound = cleared_sound;
  size = refl;
  lanes = λ lane. subst LaneWhole (sym (all_same 8 lane idle_lane)) (tt, omega arith);
  rows = λ place. subst (RowsWhole _) (sym (all_same 512 place empty_rows)) (rows_empty _);
}

-- ### one part changed

-- what holds of what is written, and of what was there, holds after the write
set_keeps : {X : Type 0} (P : ℕ → X → Type 0) (xs : List X) (i j : ℕ) (v d : X) → P i v → P j (get_or xs j d) → P j (get_or (set xs i v) j d)
set_keeps P xs i j v d new old =
    ⊎_elim (λ q. subst (P j) (sym q.1) (subst (λ n. P n v) (sym q.0) new)) (λ q. subst (P j) (sym q.0) old) (at_set xs i j v d)

module _ (t : Table) (k : KeptWhole t) where
  pub lane_changed_whole : (l : ℕ) (lane : Lane) → LaneWhole lane → KeptWhole (lane_changed t l lane)
  lane_changed_whole l lane w = record {
    sound = record { proper = k.sound.proper; flawless = k.sound.flawless };
    size = k.size;
    lanes = λ j. set_keeps (λ _ x. LaneWhole x) t.lanes.lanes.items l j lane idle_lane w (k.lanes j);
    rows = k.rows;
  }

  pub state_changed_whole : (l : ℕ) (state : LaneState) → InRange state → KeptWhole (state_changed t l state)
  state_changed_whole l state w = lane_changed_whole l (record { state = state; sent = (lane_at t.lanes l).sent }) (w, (k.lanes l).1)

  pub check_changed_whole : (check : Option ℕ) → KeptWhole (check_changed t check)
  check_changed_whole check = record { sound = record { proper = k.sound.proper; flawless = k.sound.flawless }; size = k.size; lanes = k.lanes; rows = k.rows }

  pub rows_changed_whole : (p : ℕ) (rows : Rows) → RowsWhole (node_at t.nodes p) rows → KeptWhole (rows_changed t p rows)
  rows_changed_whole p rows w = record {
    sound = record { proper = k.sound.proper; flawless = k.sound.flawless };
    size = length-set t.rows p rows ∙ k.size;
    lanes = k.lanes;
    rows = λ j. set_keeps (λ i x. RowsWhole (node_at t.nodes i) x) t.rows p j rows empty_rows w (k.rows j);
  }

  pub queued_whole : (b : ℕ) (e : Entry) → (row_of (rows_at t b) (is_urgent e)).count < 4 → may_wait (node_at t.nodes b) e ≡ true → KeptWhole (queued t b e)
  queued_whole b e room m = rows_changed_whole b _ (rows_joined (node_at t.nodes b) (rows_at t b) (k.rows b) e room m)

  -- an allowed node like the one that was there
  pub node_changed_whole : (p : ℕ) (node : Node) → AllowedNode node → Alike (node_at t.nodes p) (Some node) → KeptWhole (node_changed t p node)
  node_changed_whole p node a like = record {
    sound = record {
      proper = record { count = length-set t.nodes p (Some node) ∙ k.sound.proper.count; each = All-set AllowedPlace t.nodes p (Some node) a k.sound.proper.each };
      flawless = alike_flawless t.nodes (set t.nodes p (Some node)) alike k.sound.flawless;
    };
    size = k.size;
    lanes = k.lanes;
    rows = λ j. rows_whole_at (node_at t.nodes j) (node_at (set t.nodes p (Some node)) j) (alike j).waits (rows_at t j) (k.rows j);
  }
    where
      alike : (j : ℕ) → Alike (node_at t.nodes j) (node_at (set t.nodes p (Some node)) j)
      alike j = set_keeps (λ i x. Alike (node_at t.nodes i) x) t.nodes p j (Some node) None like (alike_self (node_at t.nodes j))

-- ### every place changed

-- what stands at a position, of lists of one size, where nothing is made of nothing
zipped_at : {X Y : Type 0} (f : X → Y → X) (xs : List X) (ys : List Y) (j : ℕ) (d : X) (e : Y) → f d e ≡ d → length xs ≡ length ys
    → get_or (zipped f xs ys) j d ≡ f (get_or xs j d) (get_or ys j e)
zipped_at f [] [] j d e z l = sym z
zipped_at f [] (y ∷ ys) j d e z l = absurd (omega arith)
zipped_at f (x ∷ xs) [] j d e z l = absurd (omega arith)
zipped_at f (x ∷ xs) (y ∷ ys) zero d e z l = refl
zipped_at f (x ∷ xs) (y ∷ ys) (suc j) d e z l = zipped_at f xs ys j d e z (omega arith)

fresh_whole : (old : Option Node) (rows : Rows) (new : Option Node) → RowsWhole old rows → RowsWhole (over old new) (fresh rows new)
fresh_whole old rows None w = w
fresh_whole old rows (Some other) w = rows_empty (Some other)

pub loaded_whole : (t : Table) (new : List (Option Node)) → Sound (loaded t new) → length new ≡ 512 → KeptWhole t → KeptWhole (loaded t new)
loaded_whole t new s l k = record {
  sound = s;
  size = zipped_long fresh t.rows new ∙ k.size;
  lanes = k.lanes;
  rows = λ j.
      subst (λ o. RowsWhole o (rows_at (loaded t new) j)) (sym (zipped_at over t.nodes new j None None refl (k.sound.proper.count ∙ sym l)))
      (subst (RowsWhole _) (sym (zipped_at fresh t.rows new j empty_rows None refl (k.size ∙ sym l)))
      (fresh_whole (node_at t.nodes j) (rows_at t j) (get_or new j None) (k.rows j)));
}

cleaned_whole : (marks : List Bool) (old : Option Node) (rows : Rows) (mark : Bool) → RowsWhole old rows → RowsWhole (without old mark) (cleaned marks rows mark)
cleaned_whole marks old rows true w = rows_empty None
cleaned_whole marks old rows false w = rows_forgotten old rows w marks

pub emptied_whole : (t : Table) (pattern : ℕ) → KeptWhole t → KeptWhole (emptied t pattern)
emptied_whole t pattern k = record {
  sound = emptied_sound t pattern k.sound;
  size = zipped_long (cleaned marks) t.rows marks ∙ k.size;
  lanes = k.lanes;
  rows = λ j.
      subst (λ o. RowsWhole o (rows_at (emptied t pattern) j)) (sym (zipped_at without t.nodes marks j None false refl (k.sound.proper.count ∙ sym many)))
      (subst (RowsWhole _) (sym (zipped_at (cleaned marks) t.rows marks j empty_rows false refl (k.size ∙ sym many)))
      (cleaned_whole marks (node_at t.nodes j) (rows_at t j) (get_or marks j false) (k.rows j)));
}
  where
    marks : List Bool
    marks = marked pattern t.nodes

    many : length marks ≡ 512
    many = zipped_long (λ _ node. in_pattern pattern node) (replicate 512 false) t.nodes
