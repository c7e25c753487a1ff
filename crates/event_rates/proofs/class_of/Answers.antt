-- `class_of` meets its contract: a branch for each case of the page, of which the first that holds gives the class.
use borrow.Author.Tests.{le-leb, lt-leb, eq-eqb, ne_eqb}
use mathlib.Core.Path.{◌≡◌}
use mathlib.Core.Bool.{true, ◌&&◌}
use lib.Dec.{leb, ltb}
use Rattle.lists.specs.Tests.{◌is◌, first}
use Rattle.records.specs.Limits.{low_height}
use Rattle.rules.specs.ClassCases.{class_cases}
use Rattle.rules.proofs.ClassLaws.{class-case}
use Rattle.event_rates.proofs.class_of.Goals as goal

pub returns-then-axles-height : goal.returns-then-axles-height
unfolding class_cases first
returns-then-axles-height c =
    let x = c.args in
    let t : leb x.axles 2 && leb x.height low_height ≡ true = c.if-axles-height.true in
    rw (← class-case) (rw t)

pub returns-then-axles-height-2 : goal.returns-then-axles-height-2
unfolding class_cases first
returns-then-axles-height-2 c =
    let x = c.args in
    let t : x.axles is 2 && ltb low_height x.height ≡ true = c.if-axles-height-2.true in
    rw (← class-case) (rw (c.if-axles-height.false, t))

pub returns-then-axles-eq3 : goal.returns-then-axles-eq3
unfolding class_cases first
returns-then-axles-eq3 c = rw (← class-case) (rw (c.if-axles-height.false, c.if-axles-height-2.false, eq-eqb _ 3 c.if-axles-eq3.true))

pub returns-then-axles-eq4 : goal.returns-then-axles-eq4
unfolding class_cases first
returns-then-axles-eq4 c =
    let b = c in
    let a = b.before.before in
    rw (← class-case) (rw (a.if-axles-height.false, b.if-axles-height-2.false, ne_eqb _ 3 b.if-axles-eq3.false, eq-eqb _ 4 c.if-axles-eq4.true))

pub returns-then-axles-ge5 : goal.returns-then-axles-ge5
unfolding class_cases first
returns-then-axles-ge5 c =
    let b = c in
    let a = b.before.before in
    rw (← class-case)
    (rw (a.if-axles-height.false, b.if-axles-height-2.false, ne_eqb _ 3 b.if-axles-eq3.false, ne_eqb _ 4 c.if-axles-eq4.false, le-leb 5 _ c.if-axles-ge5.true))

pub returns : goal.returns
unfolding class_cases first
returns c =
    let b = c in
    let a = b.before.before in
    rw (← class-case)
    (rw (a.if-axles-height.false, b.if-axles-height-2.false, ne_eqb _ 3 b.if-axles-eq3.false, ne_eqb _ 4 c.if-axles-eq4.false, lt-leb 5 _ c.if-axles-ge5.false))
