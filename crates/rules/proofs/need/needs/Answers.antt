use Rattle.std.proofs.Common.{◌≡◌, ◌+◌, ◌<◌, List, [], ◌∷◌, ◌++◌, length, sym, ap, ◌∙◌, subst, append_assoc, append-nil, length-append, arith}
use Rattle.std.proofs.Math.Seq.{get_or-append_seam}
use Rattle.rules.specs.declared.chain.Line.{Line}
use Rattle.rules.specs.Chain.{line_at}
use Rattle.rules.specs.Steps.{with_place, with_grounds}
use Rattle.rules.proofs.Walk.{Walked, walk_start, walk_line, walk_end}
use Rattle.rules.proofs.Chains.{no_line}
use Rattle.rules.proofs.need.needs.Goals as goal

pub loop-line-init : goal.loop-line-init
loop-line-init g c =
    let book = c.args.book.now in
    let lines = c.args.lines.now in
    let p = c.args.place in
    let all : c.into_iter-line-iterator.result.iter.rest.now ≡ lines = cc in (
      ([], sym (append-nil _ ∙ all)),
      λ end.
          subst (Walked (g.B.Book.rules book) lines p _) (sym (c.add.ensures ∙ ap (λ s. with_place s p) c.none-needed.ensures))
          (walk_start (g.B.Book.size book) (g.B.Book.rules book) lines p end _ (omega (arith, ap length all))),
    )

pub loop-line-preserved : goal.loop-line-preserved
loop-line-preserved g c =
    let book = c.args.book.now in
    let rules = g.B.Book.rules book in
    let lines = c.args.lines.now in
    let p = c.args.place in
    let s = c.loop-line.needed in
    let line : Line = c.in-Some.line.now in
    let front : List Line = c.next.new.self.iter.rest.now in
    let later : List Line = c.loop-line.invariant.0.0 in
    let taken : c.loop-line.line-iterator.iter.rest.now ≡ front ++ (line ∷ []) = c.in-Some.ensures.steps in
    let parts : lines ≡ front ++ (line ∷ later) = c.loop-line.invariant.0.1 ∙ ap (λ l. l ++ later) taken ∙ append_assoc front (line ∷ []) later in
    let here : line_at lines (length front) ≡ line = ap (λ l. line_at l (length front)) parts ∙ get_or-append_seam front line later no_line in
    let within : length front < length lines = omega (arith, ap length parts, length-append front (line ∷ later)) in
    let more : length c.loop-line.line-iterator.iter.rest.now ≡ length front + 1 = ap length taken ∙ length-append front (line ∷ []) in (
      (line ∷ later, parts),
      λ end.
          let before : Walked rules lines p (length front + 1) s = subst (λ n. Walked rules lines p n s) more (c.loop-line.invariant.1 end) in
          let step : Walked rules lines p (length front) (with_grounds s line.place (rules line.rule)) =
          subst (λ (l : Line). Walked rules lines p (length front) (with_grounds s l.place (rules l.rule))) here (walk_line (g.B.Book.size book) rules lines p end (length front) s within before) in
          subst (Walked rules lines p (length front)) (sym (c.want.ensures ∙ ap (with_grounds s line.place) c.rule.ensures)) step,
    )

pub returns : goal.returns
returns g c end =
    let book = c.args.book.now in
    let rules = g.B.Book.rules book in
    let s = c.loop-line.needed in
    walk_end (g.B.Book.size book) rules c.args.lines.now c.args.place end s
    (subst (λ n. Walked rules c.args.lines.now c.args.place n s) c.in-None.ensures.steps.0 (c.loop-line.invariant.1 end))
