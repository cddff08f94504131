use Rattle.std.proofs.Common.{◌≡◌, length}
use Rattle.rehearsal.specs.Tests.{distinct?}
use Rattle.rehearsal.proofs.distinct.Given as goal

abbrev pub invariant-loop-rest : goal.invariant-loop-rest
invariant-loop-rest l = distinct? l.order ≡ distinct? l.rest

abbrev pub decreases-loop-rest : goal.decreases-loop-rest
decreases-loop-rest l = length l.rest
