-- The conversion of an event record meets its contract: each of the nine words as a number.
use Rattle.records.specs.Encoding.{instruction_of}
use mathlib.Core.Path.{◌≡◌}
use mir.Syntax.{w64}
use mir.Val.{to_z, of_z}
use mir.ValLaws.{to_z-of_z}
use Rattle.records.proofs.InstructionFromEvent.from.Goals as goal

pub returns : goal.returns
unfolding instruction_of
returns c =
    let x = c.args.e in
    let g = c.struct_told-9-1.given in
    let w1 : to_z w64 (of_z w64 x.kind) ≡ x.kind = to_z-of_z w64 x.kind (record { sfits = g.0.1 }) in
    let w2 : to_z w64 (of_z w64 x.account) ≡ x.account = to_z-of_z w64 x.account (record { sfits = g.1.0.1 }) in
    let w3 : to_z w64 (of_z w64 x.a) ≡ x.a = to_z-of_z w64 x.a (record { sfits = g.1.1.0.1 }) in
    let w4 : to_z w64 (of_z w64 x.b) ≡ x.b = to_z-of_z w64 x.b (record { sfits = g.1.1.1.0.1 }) in
    let w5 : to_z w64 (of_z w64 x.c) ≡ x.c = to_z-of_z w64 x.c (record { sfits = g.1.1.1.1.0.1 }) in
    let w6 : to_z w64 (of_z w64 x.d) ≡ x.d = to_z-of_z w64 x.d (record { sfits = g.1.1.1.1.1.0.1 }) in
    let w7 : to_z w64 (of_z w64 x.e) ≡ x.e = to_z-of_z w64 x.e (record { sfits = g.1.1.1.1.1.1.0.1 }) in
    let w8 : to_z w64 (of_z w64 x.f) ≡ x.f = to_z-of_z w64 x.f (record { sfits = g.1.1.1.1.1.1.1.0.1 }) in
    let w9 : to_z w64 (of_z w64 x.g) ≡ x.g = to_z-of_z w64 x.g (record { sfits = g.1.1.1.1.1.1.1.1.0.1 }) in
    simp (
      c.natural.ensures,
      c.natural-2.ensures,
      c.natural-3.ensures,
      c.natural-4.ensures,
      c.natural-5.ensures,
      c.natural-6.ensures,
      c.natural-7.ensures,
      c.natural-8.ensures,
      c.natural-9.ensures,
      w1,
      w2,
      w3,
      w4,
      w5,
      w6,
      w7,
      w8,
      w9,
    )
