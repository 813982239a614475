-- `naming::words::same` meets its contract. The invariant: the two names are alike so far. Assumes nothing.
use mathlib.Core.Path.{◌≡◌, sym, ap, ◌∙◌}
use mathlib.Core.Bool.{true, false, not}
use Prim.Native.Nat.{ℕ, ◌+◌, ◌<◌}
use native.Mathlib.Omega.{arith}
use lib.ListN.{length, get_or, length-drop, get_or-eq_default}
use lib.Seq.{get_or-drop}
use Rattle.rules.specs.Signs.{byte_at, in_name}
use Rattle.rules.proofs.Signs.{named_inside}
use Rattle.naming.proofs.Runs.{told}
use Rattle.naming.proofs.Alike.{alike_none, alike_more, alike_other, alike_end}
use Rattle.naming.proofs.words.same.Goals as goal

pub loop-i-init : goal.loop-i-init
loop-i-init c = (omega arith, λ p q a b. alike_none a b)

pub returns-then-not-in_name : goal.returns-then-not-in_name
returns-then-not-in_name c =
    let l = c.loop-i in
    let a = c.args in
    let read : get_or c.bytes_from-rest.result.now l.i 0 ≡ byte_at a.text.now (a.one + l.i) =
    rw c.bytes_from-rest.ensures (get_or-drop a.one a.text.now l.i 0) in
    let over = told read c.in_name.ensures c.if-not-in_name.true in
    λ p q u v. ap not (c.in_name-then-not-in_name.ensures ∙ ap in_name c.byte.ensures) ∙ sym (alike_end (l.invariant.1 p q u v) over)

pub returns-then-sign-byte : goal.returns-then-sign-byte
returns-then-sign-byte c =
    let l = c.loop-i in
    let a = c.args in
    let read : get_or c.bytes_from-rest.result.now l.i 0 ≡ byte_at a.text.now (a.one + l.i) =
    rw c.bytes_from-rest.ensures (get_or-drop a.one a.text.now l.i 0) in
    let here = told read c.in_name.ensures c.if-not-in_name.false in
    λ p q u v. sym (alike_other (l.invariant.1 p q u v) here (λ e. c.if-sign-byte.true (read ∙ e ∙ sym c.byte-in-loop-i.ensures)))

pub loop-i-preserved : goal.loop-i-preserved
loop-i-preserved c =
    let l = c.loop-i in
    let a = c.args in
    let text = a.text.now in
    let read : get_or c.bytes_from-rest.result.now l.i 0 ≡ byte_at text (a.one + l.i) =
    rw c.bytes_from-rest.ensures (get_or-drop a.one text l.i 0) in
    let same : byte_at text (a.one + l.i) ≡ byte_at text (a.other + l.i) = sym read ∙ c.if-sign-byte.false ∙ c.byte-in-loop-i.ensures in
    let here : in_name (byte_at text (a.one + l.i)) ≡ true = told read c.in_name.ensures c.if-not-in_name.false in
    let inside : a.other + l.i < length text = named_inside text (a.other + l.i) (ap in_name (sym same) ∙ here) in
    (omega arith, λ p q u v. alike_more (l.invariant.1 p q u v) here same)

pub returns : goal.returns
returns c =
    let l = c.loop-i in
    let a = c.args in
    let s = a.text.now in
    let all : l.i ≡ length c.bytes_from-rest.result.now = omega arith in
    let over : in_name (byte_at s (a.one + l.i)) ≡ false =
    ap in_name (get_or-eq_default s 0 (omega (arith, length-drop a.one s, ap length c.bytes_from-rest.ensures))) in
    λ p q u v.
    ap not (c.in_name-2.ensures ∙ ap in_name c.byte-2.ensures)
    ∙ ap (λ (i : ℕ). not (in_name (byte_at s (a.other + i)))) (sym all)
    ∙ sym (alike_end (l.invariant.1 p q u v) over)
