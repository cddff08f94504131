use Rattle.std.proofs.Common.{rules}
use Rattle.store.proofs.Views.{poke_state}
use Rattle.store.proofs.Board.write_state.Goals as goal

pub returns : goal.returns
returns c = λ is os ws.
    rw (c.from.ensures, c.get-task.ensures.value)
    (record {
      value = poke_state c.args.self.now is os ws c.args.t c.args.v (search rules);
      grows = rw c.get-task.ensures.value at c.note.ensures;
    })
