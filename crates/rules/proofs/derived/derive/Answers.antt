use Rattle.std.proofs.Common.{sym, subst, arith}
use Rattle.rules.proofs.Sweeps.{Good, good_nothing, few, swept_good, swept_more, swept_found, the_laws}
use Rattle.rules.proofs.derived.derive.Goals as goal

pub loop-init : goal.loop-init
loop-init g c =
    let book = c.args.book.now in
    subst (Good (g.B.Book.size book) (g.B.Book.rules book)) (sym c.nothing-found.ensures) (good_nothing (g.B.Book.size book) (g.B.Book.rules book))

pub loop-preserved : goal.loop-preserved
loop-preserved g c =
    let book = c.args.book.now in
    swept_good (g.B.Book.size book) (g.B.Book.rules book) c.loop.found c.grows.new.self c.loop.invariant c.grows.ensures.swept

pub loop-smaller : goal.loop-smaller
loop-smaller g c =
    let book = c.args.book.now in
    let size = g.B.Book.size book in
    let rules = g.B.Book.rules book in
    let s = c.loop.found in
    let t = c.grows.new.self in
    let good = swept_good size rules s t c.loop.invariant c.grows.ensures.swept in
    omega (arith, swept_more size rules s t c.loop.invariant c.grows.ensures.swept, few size rules t good, c.grows.ensures.more c.loop-test.true)

pub returns : goal.returns
returns g c =
    let book = c.args.book.now in
    let size = g.B.Book.size book in
    let rules = g.B.Book.rules book in
    record {
      found = swept_found size rules c.loop.found c.grows.new.self c.loop.invariant c.grows.ensures.swept (c.grows.ensures.told c.loop-test.false);
      laws = the_laws size rules;
    }
