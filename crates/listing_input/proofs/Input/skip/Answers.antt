-- `skip` meets its contract: the bytes that are left begin later.
use Rattle.std.proofs.Common.{◌≡◌, ◌+◌, ◌-◌, arith, ap, length, drop, length-take-le, length-drop}
use Rattle.std.proofs.Math.Seq.{drop-drop}
use Rattle.std.proofs.lemmas.List.{drop-take}
use Rattle.listing_input.proofs.Input.skip.Goals as goal

pub returns : goal.returns
returns c =
    let i = c.self.inside in
    let n = c.args.n in
    let left = i.to - (i.from + n) in
    let size = length-take-le (i.to - i.from) (drop i.from i.bytes) (omega (arith, length-drop i.from i.bytes)) in
    let all : n + left ≡ i.to - i.from = omega (arith, size, ap length c.self.view_is) in
    rw (← drop-drop n i.from i.bytes, ← drop-take n left (drop i.from i.bytes), all, c.self.view_is)
