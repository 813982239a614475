-- `text::taken` meets its contract. Assumes nothing.
use mathlib.Core.Path.{sym, ◌∙◌}
use native.Mathlib.Omega.{arith}
use lib.Seq.{length-take-le}
use Rattle.text.proofs.Answers.{markable, sets_read, sets_few, marks_read, marks_few, numbers_loaded, read_whole}
use Rattle.text.proofs.taken.Goals as goal

pub need_marks-marked-requires : goal.need_marks-marked-requires
need_marks-marked-requires c = markable c.requires.1 c.requires.2 (c.sections-places.ensures c.requires.0 c.requires.1)

pub slice_bounds-forbidden-end : goal.slice_bounds-forbidden-end
slice_bounds-forbidden-end c =
    let places = c.sections-places.ensures c.requires.0 c.requires.1 in
    omega (arith, sets_few c.requires.1 c.requires.2 places c.forbidden_sets-count.ensures, c.forbidden_sets-count.auto.sets)

pub slice_bounds-load-end : goal.slice_bounds-load-end
slice_bounds-load-end c =
    let places = c.sections-places.ensures c.requires.0 c.requires.1 in
    sym (length-take-le _ _ (omega (arith, sets_few c.requires.1 c.requires.2 places c.forbidden_sets-count.ensures, c.forbidden_sets-count.auto.sets)))

pub slice_bounds-marks-end : goal.slice_bounds-marks-end
slice_bounds-marks-end c =
    let places = c.sections-places.ensures c.requires.0 c.requires.1 in
    omega (arith, marks_few c.requires.1 c.requires.2 places c.need_marks-marked.ensures, c.need_marks-marked.auto.marks)

pub slice_bounds-load-end-2 : goal.slice_bounds-load-end-2
slice_bounds-load-end-2 c =
    let places = c.sections-places.ensures c.requires.0 c.requires.1 in
    sym (length-take-le _ _ (omega (arith, marks_few c.requires.1 c.requires.2 places c.need_marks-marked.ensures, c.need_marks-marked.auto.marks)))

pub unwrap-job-requires : goal.unwrap-job-requires
unwrap-job-requires c =
    let form = c.requires.1 in
    let places = c.sections-places.ensures c.requires.0 form in
    let sets = sets_read form c.requires.2 places c.forbidden_sets-count.ensures in
    let marks = marks_read form c.requires.2 places c.need_marks-marked.ensures in
    rw (c.load-loaded.ensures ∙ numbers_loaded form c.requires.2 c.name_table-table.ensures sets marks)

pub returns : goal.returns
returns c =
    λ sheet form right.
    let places = c.sections-places.ensures sheet form in
    let sets = sets_read form right places c.forbidden_sets-count.ensures in
    let marks = marks_read form right places c.need_marks-marked.ensures in
    read_whole form right c.name_table-table.ensures sets marks (sym c.load-loaded.ensures ∙ c.unwrap-job.ensures)
