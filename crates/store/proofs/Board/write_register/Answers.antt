use Rattle.std.proofs.Common.{rules}
use Rattle.store.proofs.Views.{poke_register}
use Rattle.store.proofs.Board.write_register.Goals as goal

pub returns : goal.returns
returns c = λ is os ws.
    let after = c.set_register.ensures in
    rw (c.from.ensures, c.get-task.ensures.value)
    (record {
      value = poke_register c.args.self.now is os ws c.args.t c.args.r c.args.v (search rules) (cc) after.within after.after;
      grows = rw (c.get-task.ensures.value, c.get-number.ensures.value) at c.note.ensures;
    })
