use Rattle.std.proofs.Common.{sym, subst}
use Rattle.rules.specs.Chain.{Leads}
use Rattle.rules.specs.Found.{holds}
use Rattle.rules.proofs.Keep.{keep_ends}
use Rattle.rules.proofs.need.narrow.Goals as goal

pub returns : goal.returns
returns g c end =
    let book = c.args.book.now in
    let p = c.args.place in
    subst (λ l. Leads (g.B.Book.size book) (g.B.Book.rules book) l p) (sym c.keep_all.ensures)
    (keep_ends (g.B.Book.size book) (g.B.Book.rules book) c.args.lines.now p (holds c.needs-needed.result) end (c.needs-needed.ensures end))
