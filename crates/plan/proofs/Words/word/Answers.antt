use Rattle.std.proofs.Common.{◌+◌, ◌%◌, length, arith, lt-ltb}
use Rattle.cells.proofs.Following.{find_look, find_ret}
use Rattle.plan.proofs.Words.word.Goals as goal

pub returns : goal.returns
returns c = λ b is os.
    rw (lt-ltb ((c.args.self.now.site.place + c.args.n) % 65536) (length c.args.self.now.ram.now) (omega arith)) (
    find_look (c.read_ram.ensures b is os) find_ret)
