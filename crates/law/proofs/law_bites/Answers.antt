use Rattle.std.proofs.Common.{refl}
use Rattle.law.proofs.Example.{told_apart, needed, met}
use Rattle.law.proofs.law_bites.Goals as goal

pub returns : goal.returns
returns c = record { told_apart = told_apart; needed = needed; met = met; met_trails = refl }
