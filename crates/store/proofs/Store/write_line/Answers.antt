use Rattle.store.proofs.Store.write_line.Goals as goal

pub returns-in-Flag : goal.returns-in-Flag
returns-in-Flag g c = λ ws.
    rw c.in-Flag.is (
    c.write_flag.ensures (g.I.Card.lines c.args.self.now.inputs) (g.O.Card.lines c.args.self.now.outputs) ws)
