-- The next line, read and played.
use Rattle.std.proofs.Common.{◌≡◌, inl, inr, ⊎_elim, ℕ, ◌<◌, ◌+◌, true, List, [], length, refl, subst, arith, Result, Ok, Err, Option, Some, sym}
use Rattle.std.specs.Prelude.{nat_lt}
use Rattle.dg_base.specs.Outside.{AtEnd}
use Rattle.std.proofs.lemmas.Bool.Decides.{nat_tests}
use Rattle.dg_lines.specs.LineReading.{Reading, FirstLine, Gives, NextAnswer}
use Rattle.dg_script.specs.Sizes.{most_line}
use Rattle.dg_lines.specs.declared.line_reader.ReadStop.{ReadStop}
use Rattle.dg_lines.specs.declared.line_reader.ReadStop.TheVariants as stop
use Rattle.dg_script.specs.declared.fault.LineFault.TheVariants as lines
use Rattle.dg_outside.specs.Outside.{OutputState}
use Rattle.dg_end.specs.declared.ends.End.{End}
use Rattle.dg_end.specs.declared.ends.End.TheVariants as ends
use Rattle.dg_drip_script.specs.Lines.{drip_line_of, line_fault}
use Rattle.dg_drip_script.specs.Scripts.{DripScript, standing_of}
use Rattle.dg_drip_script.specs.declared.line.DripFault.TheVariants as fault
use Rattle.dg_drip_run.specs.inner.Lines.{DripTextAnswer, BadText, DripStage, NextStops, NextPlays}
use Rattle.dg_drip_run.specs.declared.player.Player.{Player}

pub some_given : (o : Option ℕ) (n : ℕ) (bytes : List ℕ) (old new : Reading) (at_end failed : Type 0) → o ≡ Some n → NextAnswer (Ok o) bytes old new at_end failed → (n ≡ new.number) × Gives bytes old new at_end
some_given o n bytes old new at_end failed is h = let k : NextAnswer (Ok (Some n)) bytes old new at_end failed = subst (λ (x : Option ℕ). NextAnswer (Ok x) bytes old new at_end failed) is h in k

first_of : (bytes : List ℕ) (old new : Reading) (at_end : Type 0) → Gives bytes old new at_end → FirstLine bytes at_end new.text new.ahead
first_of bytes old new at_end g = record { line = g.first.line; parts = g.first.parts; is = ⊎_elim (λ l. inl l) (λ l. inr (l.0, l.1, l.2.0)) g.first.is }

-- the text and the number are those of the reader
pub text_at : (r : Result (Unit {0}) End) (s : DripScript) (text told : List ℕ) (number n : ℕ) (q : Player) (a b : OutputState) → text ≡ told → number ≡ n
    → DripTextAnswer r s (record { text = text; number = number }) q a b → DripTextAnswer r s (record { text = told; number = n }) q a b
text_at r s text told number n q a b same at h =
    subst (λ (x : List ℕ). DripTextAnswer r s (record { text = x; number = n }) q a b) same (subst (λ (m : ℕ). DripTextAnswer r s (record { text = text; number = m }) q a b) at h)

pub next_ok : (s : DripScript) (bytes : List ℕ) (number : ℕ) (p q : DripStage) → Gives bytes p.reader q.reader (AtEnd q.input.left)
    → DripTextAnswer (Ok tt) s (record { text = q.reader.text; number = number }) q.player p.output q.output → NextPlays (Ok true) bytes s p q
next_ok s bytes number p q g h = (g, ⊎_elim (λ k. k) (λ k. absurd (let e = k.2 in cc)) h)

pub next_err : (end : End) (s : DripScript) (bytes : List ℕ) (p q : DripStage) → Gives bytes p.reader q.reader (AtEnd q.input.left)
    → DripTextAnswer (Err end) s (record { text = q.reader.text; number = p.reader.number + 1 }) q.player p.output q.output → NextPlays (Err end) bytes s p q
next_err end s bytes p q g h =
    ⊎_elim
    (λ k. inl (g, k))
    (λ k.
    let is : end ≡ ends.BadLine (p.reader.number + 1) (line_fault k.0) = let e = k.2 in cc in
    let text : BadText p.reader.passed bytes s k.0 (AtEnd q.input.left) =
    record { text = q.reader.text; rest = q.reader.ahead; first = first_of bytes p.reader q.reader (AtEnd q.input.left) g; used = g.used; near = g.near; bad = k.1 } in
    inr (subst (λ (x : End). NextStops x bytes s p q) (sym is) (k.0, refl, refl, text), k.3))
    h

above : (n m : ℕ) → m < n → nat_lt m n ≡ true
above n m h = grind (arith, nat_tests)

pub long_line : (s : DripScript) (text : List ℕ) → most_line < length text → drip_line_of (standing_of s) text ≡ Err fault.Long
unfolding drip_line_of
long_line s text long = rw (above (length text) most_line long) refl

pub next_long : (s : DripScript) (e : ReadStop) (line : ℕ) (bytes : List ℕ) (p q : DripStage) (failed : Type 0) → e ≡ stop.Long line
    → NextAnswer (Err e) bytes p.reader q.reader (AtEnd q.input.left) failed → q.output ≡ p.output → NextPlays (Err (ends.BadLine line lines.Long)) bytes s p q
next_long s e line bytes p q failed is h same =
    let k : NextAnswer (Err (stop.Long line)) bytes p.reader q.reader (AtEnd q.input.left) failed = subst (λ (x : ReadStop). NextAnswer (Err x) bytes p.reader q.reader (AtEnd q.input.left) failed) is h in
    inr (
      (
        fault.Long,
        refl,
        k.0,
        record { text = k.1.text; rest = k.1.rest; first = k.1.first; used = k.1.used; near = k.1.near; bad = long_line s k.1.text k.1.long },
      ),
      same,
    )
