-- `text::needs::need_marks` meets its contract. Assumes nothing.
use mathlib.Core.Path.{refl, ◌∙◌}
use native.Mathlib.Omega.{arith}
use lib.ListN.{length-set}
use Rattle.rules.specs.Marks.{end_mark}
use Rattle.naming.specs.declared.sections.Section.TheVariants.{Need}
use Rattle.naming.proofs.KeyPlaces.{key_inside}
use Rattle.text.proofs.MarksLaid.{laying_none, laying_asks, laying_room, laying_more, laying_done}
use Rattle.text.proofs.needs.need_marks.Goals as goal

pub loop-place-init : goal.loop-place-init
loop-place-init c = (refl, laying_none c.requires)

pub overflow_add-place : goal.overflow_add-place
overflow_add-place c =
    let here = c.key_stands.ensures.there c.loop-place-test.true in
    omega (arith, key_inside Need here, c.width-before.ensures)

pub or_list-read-requires : goal.or_list-read-requires
or_list-read-requires c =
    let here = c.key_stands.ensures.there c.loop-place-test.true in
    rw c.width-before.ensures (laying_asks c.loop-place.invariant.1 here)

pub offset_bounds-marks-last : goal.offset_bounds-marks-last
offset_bounds-marks-last c =
    let here = c.key_stands.ensures.there c.loop-place-test.true in
    let room = laying_room c.loop-place.invariant.1 here c.width-before.ensures c.or_list-read.ensures c.or_list-read.auto.marks in
    omega arith

pub bounds-marks-last : goal.bounds-marks-last
bounds-marks-last c =
    let here = c.key_stands.ensures.there c.loop-place-test.true in
    let room = laying_room c.loop-place.invariant.1 here c.width-before.ensures c.or_list-read.ensures c.or_list-read.auto.marks in
    room.0

pub overflow_add-count : goal.overflow_add-count
overflow_add-count c =
    let here = c.key_stands.ensures.there c.loop-place-test.true in
    let room = laying_room c.loop-place.invariant.1 here c.width-before.ensures c.or_list-read.ensures c.or_list-read.auto.marks in
    omega arith

pub overflow_add-place-in-loop-place : goal.overflow_add-place-in-loop-place
overflow_add-place-in-loop-place c =
    let here = c.key_stands.ensures.there c.loop-place-test.true in
    let room = laying_room c.loop-place.invariant.1 here c.width-before.ensures c.or_list-read.ensures c.or_list-read.auto.marks in
    omega arith

pub loop-place-smaller : goal.loop-place-smaller
loop-place-smaller c =
    let here = c.key_stands.ensures.there c.loop-place-test.true in
    let room = laying_room c.loop-place.invariant.1 here c.width-before.ensures c.or_list-read.ensures c.or_list-read.auto.marks in
    omega arith

pub loop-place-preserved : goal.loop-place-preserved
loop-place-preserved c =
    let here = c.key_stands.ensures.there c.loop-place-test.true in
    let read = c.or_list-read in (
      length-set read.new.marks read.result.marked end_mark ∙ read.auto.marks ∙ c.loop-place.invariant.0,
      laying_more c.loop-place.invariant.1 here c.width-before.ensures read.ensures read.auto.marks,
    )

pub returns : goal.returns
returns c = laying_done c.loop-place.invariant.1 (c.key_stands.ensures.missing c.loop-place-test.false)
