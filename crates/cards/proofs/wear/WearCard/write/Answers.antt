use Rattle.std.proofs.Common.{arith, rules}
use Rattle.std.proofs.lemmas.List.{set-get_or}
use Rattle.cards.proofs.Rows.{lines_at}
use Rattle.cards.proofs.Switches.{worn_turned}
use Rattle.cards.proofs.wear.WearCard.write.Goals as goal
use Rattle.cards.proofs.wear.WearCard.write.Goals.{else-n-lt-LINES-via-then-n-lt-LINES+else-read-on, else-n-lt-LINES-via-else-n-lt-LINES}

pub returns-then-read-on-clause-lines : goal.returns-then-read-on-clause-lines
returns-then-read-on-clause-lines c =
    rw (c.from.ensures, c.from-then-read-on.ensures) (worn_turned c.args.self.now.counts c.args.n c.args.on _ (omega arith) (search rules) c.read.ensures c.if-read-on.true)

pub returns-else-n-lt-LINES-clause-counts : goal.returns-else-n-lt-LINES-clause-counts
returns-else-n-lt-LINES-clause-counts c =
    elim c.else-n-lt-LINES.branch [
      | else-n-lt-LINES-via-then-n-lt-LINES+else-read-on w ↦ grind (arith, lines_at, set-get_or)
      | else-n-lt-LINES-via-else-n-lt-LINES w ↦ grind arith
    ]
