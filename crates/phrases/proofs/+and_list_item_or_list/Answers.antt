-- `phrases::or_list`, `phrases::and_list` and `phrases::item` meet their contracts. Assumes nothing.
use mathlib.Core.Path.{◌≡◌, sym, ◌∙◌}
use native.Mathlib.Omega.{arith}
use Rattle.rules.specs.Signs.{byte_at, ampersand, bar, bracket_open}
use Rattle.rules.specs.Phrases.{ors, ands}
use Rattle.phrases.proofs.Turns.{sign_within, first_asks, first_turn, turn_asks, turn_room, turn_again, turns_done}
use Rattle.phrases.proofs.Items.{item_room, bracket_within, bracket_asks, bracket_done, name_done}
use Rattle.phrases.proofs.+and_list_item_or_list.Goals as goal

-- ---- an and-list

pub and_list-item-first-requires : goal.and_list-item-first-requires
and_list-item-first-requires t c = (omega arith, first_asks c.requires)

pub and_list-loop-place-init : goal.and_list-loop-place-init
and_list-loop-place-init t c = first_turn c.requires c.item-first.ensures c.item-first.auto.marks

pub and_list-item-next-requires : goal.and_list-item-next-requires
and_list-item-next-requires t c =
    let sign : byte_at c.args.text.now c.loop-place.place ≡ ampersand = sym c.byte.ensures ∙ c.loop-place-test.true in
    let near = sign_within c.args.text.now c.loop-place.place ands sign in
    (omega (arith, c.loop-place.invariant.forward), turn_asks c.loop-place.invariant sign)

pub and_list-offset_bounds-marks-last : goal.and_list-offset_bounds-marks-last
and_list-offset_bounds-marks-last t c =
    let sign : byte_at c.args.text.now c.loop-place.place ≡ ampersand = sym c.byte.ensures ∙ c.loop-place-test.true in
    let room = turn_room c.loop-place.invariant sign c.item-next.ensures c.item-next.auto.marks in
    omega arith

pub and_list-bounds-marks-last : goal.and_list-bounds-marks-last
and_list-bounds-marks-last t c =
    let sign : byte_at c.args.text.now c.loop-place.place ≡ ampersand = sym c.byte.ensures ∙ c.loop-place-test.true in
    let room = turn_room c.loop-place.invariant sign c.item-next.ensures c.item-next.auto.marks in
    omega arith

pub and_list-overflow_add-count : goal.and_list-overflow_add-count
and_list-overflow_add-count t c =
    let sign : byte_at c.args.text.now c.loop-place.place ≡ ampersand = sym c.byte.ensures ∙ c.loop-place-test.true in
    let room = turn_room c.loop-place.invariant sign c.item-next.ensures c.item-next.auto.marks in
    omega arith

pub and_list-loop-place-smaller : goal.and_list-loop-place-smaller
and_list-loop-place-smaller t c =
    let sign : byte_at c.args.text.now c.loop-place.place ≡ ampersand = sym c.byte.ensures ∙ c.loop-place-test.true in
    let room = turn_room c.loop-place.invariant sign c.item-next.ensures c.item-next.auto.marks in
    let near = sign_within c.args.text.now c.loop-place.place ands sign in
    omega arith

pub and_list-loop-place-preserved : goal.and_list-loop-place-preserved
and_list-loop-place-preserved t c =
    let sign : byte_at c.args.text.now c.loop-place.place ≡ ampersand = sym c.byte.ensures ∙ c.loop-place-test.true in
    turn_again c.loop-place.invariant sign c.item-next.ensures c.item-next.auto.marks

pub and_list-returns : goal.and_list-returns
and_list-returns t c = turns_done c.loop-place.invariant (λ h. c.loop-place-test.false (c.byte.ensures ∙ h)) c.item-first.ensures

-- ---- an item

pub item-or_list-inner-requires : goal.item-or_list-inner-requires
item-or_list-inner-requires t c =
    let sign : byte_at c.args.text.now c.args.at ≡ bracket_open = sym c.byte.ensures ∙ c.if-byte-eq40.true in
    let near = bracket_within c.args.text.now c.args.at sign in
    (omega arith, bracket_asks sign c.requires)

pub item-returns-then-byte-eq40 : goal.item-returns-then-byte-eq40
item-returns-then-byte-eq40 t c =
    let sign : byte_at c.args.text.now c.args.at ≡ bracket_open = sym c.byte.ensures ∙ c.if-byte-eq40.true in
    bracket_done sign c.or_list-inner.ensures

pub item-bounds-marks-marked : goal.item-bounds-marks-marked
item-bounds-marks-marked t c = item_room c.requires

pub item-returns : goal.item-returns
item-returns t c =
    name_done (λ h. c.if-byte-eq40.false (c.byte.ensures ∙ h)) (item_room c.requires) c.column_in.ensures.is c.name_end.ensures

-- ---- an or-list

pub or_list-and_list-first-requires : goal.or_list-and_list-first-requires
or_list-and_list-first-requires t c = (omega arith, first_asks c.requires)

pub or_list-loop-place-init : goal.or_list-loop-place-init
or_list-loop-place-init t c = first_turn c.requires c.and_list-first.ensures c.and_list-first.auto.marks

pub or_list-and_list-next-requires : goal.or_list-and_list-next-requires
or_list-and_list-next-requires t c =
    let sign : byte_at c.args.text.now c.loop-place.place ≡ bar = sym c.byte.ensures ∙ c.loop-place-test.true in
    let near = sign_within c.args.text.now c.loop-place.place ors sign in
    (omega (arith, c.loop-place.invariant.forward), turn_asks c.loop-place.invariant sign)

pub or_list-offset_bounds-marks-last : goal.or_list-offset_bounds-marks-last
or_list-offset_bounds-marks-last t c =
    let sign : byte_at c.args.text.now c.loop-place.place ≡ bar = sym c.byte.ensures ∙ c.loop-place-test.true in
    let room = turn_room c.loop-place.invariant sign c.and_list-next.ensures c.and_list-next.auto.marks in
    omega arith

pub or_list-bounds-marks-last : goal.or_list-bounds-marks-last
or_list-bounds-marks-last t c =
    let sign : byte_at c.args.text.now c.loop-place.place ≡ bar = sym c.byte.ensures ∙ c.loop-place-test.true in
    let room = turn_room c.loop-place.invariant sign c.and_list-next.ensures c.and_list-next.auto.marks in
    omega arith

pub or_list-overflow_add-count : goal.or_list-overflow_add-count
or_list-overflow_add-count t c =
    let sign : byte_at c.args.text.now c.loop-place.place ≡ bar = sym c.byte.ensures ∙ c.loop-place-test.true in
    let room = turn_room c.loop-place.invariant sign c.and_list-next.ensures c.and_list-next.auto.marks in
    omega arith

pub or_list-loop-place-smaller : goal.or_list-loop-place-smaller
or_list-loop-place-smaller t c =
    let sign : byte_at c.args.text.now c.loop-place.place ≡ bar = sym c.byte.ensures ∙ c.loop-place-test.true in
    let room = turn_room c.loop-place.invariant sign c.and_list-next.ensures c.and_list-next.auto.marks in
    let near = sign_within c.args.text.now c.loop-place.place ors sign in
    omega arith

pub or_list-loop-place-preserved : goal.or_list-loop-place-preserved
or_list-loop-place-preserved t c =
    let sign : byte_at c.args.text.now c.loop-place.place ≡ bar = sym c.byte.ensures ∙ c.loop-place-test.true in
    turn_again c.loop-place.invariant sign c.and_list-next.ensures c.and_list-next.auto.marks

pub or_list-returns : goal.or_list-returns
or_list-returns t c = turns_done c.loop-place.invariant (λ h. c.loop-place-test.false (c.byte.ensures ∙ h)) c.and_list-first.ensures
