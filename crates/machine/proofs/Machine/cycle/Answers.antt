use Rattle.std.proofs.Common.{refl, eq-eqb, ne_eqb}
use Rattle.cells.proofs.Following.{find_look, find_break, found, go_look, go_ret, go_bind}
use Rattle.machine.proofs.Calling.{ends_refused}
use Rattle.machine.proofs.Machine.cycle.Goals as goal

pub returns-in_default : goal.returns-in_default
returns-in_default g c =
    let m = c.args.self.now in
    go_look (c.in_default.ensures (g.I.Card.lines m.store.inputs) (g.O.Card.lines m.store.outputs) c.args.ram.now) go_ret

pub returns-then-read_delay-ne0 : goal.returns-then-read_delay-ne0
returns-then-read_delay-ne0 g c =
    let m = c.args.self.now in
    let is = g.I.Card.lines m.store.inputs in
    let os = g.O.Card.lines m.store.outputs in
    go_look (c.in-Ready.ensures is os c.args.ram.now) (
    go_look (c.read_delay.ensures is os c.args.ram.now) (
    rw (ne_eqb _ _ c.if-read_delay-ne0.true) go_ret))

pub returns-in_err-action : goal.returns-in_err-action
returns-in_err-action g c =
    let m = c.args.self.now in
    let is = g.I.Card.lines m.store.inputs in
    let os = g.O.Card.lines m.store.outputs in
    ends_refused _ _ c.from_residual.ensures.1 (
    find_look (c.in-Ready.ensures is os c.args.ram.now) (
    find_look (c.read_delay.ensures is os c.args.ram.now) (
    rw (eq-eqb _ _ c.if-read_delay-ne0.false) (
    find_look (c.read_place-place.ensures is os c.args.ram.now) (
    find_break (c.in_err-action.ensures is os) _ _ c.from_residual.ensures.1))))) refl

pub returns : goal.returns
returns g c =
    let m = c.args.self.now in
    let is = g.I.Card.lines m.store.inputs in
    let os = g.O.Card.lines m.store.outputs in
    go_look (c.in-Ready.ensures is os c.args.ram.now) (
    go_look (c.read_delay.ensures is os c.args.ram.now) (
    rw (eq-eqb _ _ c.if-read_delay-ne0.false) (
    go_look (c.read_place-place.ensures is os c.args.ram.now) (
    go_bind (found (c.in_ok-action.ensures is os)) _ (
    c.perform_action.ensures c.args.ram.now)))))
