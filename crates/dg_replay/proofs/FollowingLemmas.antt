-- The next line, read and played.
use Rattle.std.proofs.Common.{◌≡◌, ⊎_elim, inl, inr, ℕ, ◌+◌, ◌<◌, Bool, true, false, List, length, Option, Result, Ok, Err, Some, refl, ap, sym, ◌∙◌, subst, arith}
use Rattle.std.specs.Prelude.{nat_le}
use Rattle.std.proofs.lemmas.Bool.Decides.{nat_tests}
use Rattle.dg_nor.specs.Device.{Device}
use Rattle.dg_object.specs.Object.{Row}
use Rattle.dg_script.specs.Sizes.{most_line}
use Rattle.dg_script.specs.Lines.{line_of}
use Rattle.dg_lines.specs.LineReading.{Reading, FirstLine, NextAnswer}
use Rattle.dg_script.specs.declared.fault.LineFault.TheVariants as line_fault
use Rattle.dg_lines.specs.declared.line_reader.ReadStop.{ReadStop}
use Rattle.dg_lines.specs.declared.line_reader.ReadStop.TheVariants as read_stop
use Rattle.dg_script.specs.declared.place.Place.{Place}
use Rattle.dg_replay.specs.Following.{GivenPlayed, HaltedAs, NextPlayed}
use Rattle.dg_replay.specs.Playing.{Stood}
use Rattle.dg_replay.specs.Replaying.{TextAnswer}
use Rattle.dg_replay.specs.declared.halt.Halt.{Halt}
use Rattle.dg_replay.specs.declared.halt.Halt.TheVariants.{ReadFault, TooLong, Stopped}
use Rattle.dg_replay.specs.declared.stop.Stop.{Stop}
use Rattle.dg_replay.specs.Stages.{based_on, DoneSoFar, ReplayState, line_read}
use Rattle.dg_replay.specs.inner.Words.{bytes_taken}
use Rattle.dg_replay.specs.Untouched.{TextKeepsBytes}
use Rattle.dg_replay.specs.declared.stop.Stop.TheVariants.{BadInput}
use Rattle.dg_replay.proofs.BytesLemmas.{text_same}
use Rattle.dg_replay.proofs.ShownLemmas.{stays_same}

above : (n m : ℕ) → m < n → nat_le n m ≡ false
above n m h = grind (arith, nat_tests)

-- a text that is too long spells no line
pub long_line : (place : Place) (text : List ℕ) → most_line < length text → line_of place text ≡ Err line_fault.Long
unfolding line_of
long_line place text long = rw (above (length text) most_line long) refl

pub first_of_last : (bytes : List ℕ) (A : Type 0) (new : Reading) (text rest : List ℕ) → FirstLine bytes (A × (new.last ≡ true)) text rest → FirstLine bytes A text rest
first_of_last bytes A new text rest f = record { line = f.line; parts = f.parts; is = ⊎_elim (λ l. inl l) (λ l. inr (l.0, l.1, l.2.0)) f.is }

pub next_given : (r : Result Bool Halt) (n : ℕ) (bytes : List ℕ) (old new : Reading) (A F N : Type 0) (P : Result (Unit {0}) Stop → List ℕ → Type 0)
    → NextAnswer (Ok (Some n)) bytes old new A F → GivenPlayed r (λ x. P x new.text) → NextPlayed r (bytes_taken bytes A) old new F N P
next_given (Ok true) n bytes old new A F N P g h = (g.1, h)
next_given (Ok false) n bytes old new A F N P g h = absurd h
next_given (Err ReadFault) n bytes old new A F N P g h = absurd h
next_given (Err TooLong) n bytes old new A F N P g h = absurd h
next_given (Err (Stopped stop)) n bytes old new A F N P g h =
    (new.text, new.ahead, record { first = first_of_last bytes A new new.text new.ahead g.1.first; used = g.1.used; near = g.1.near }, h)

pub next_halted : (stop : ReadStop) (halt : Halt) (bytes : List ℕ) (old new : Reading) (A F N : Type 0) (P : Result (Unit {0}) Stop → List ℕ → Type 0) → HaltedAs stop halt → NextAnswer (Err stop) bytes old new A F → N
    → ((text : List ℕ) → most_line < length text → P (Err (BadInput (old.number + 1) line_fault.Long)) text) → NextPlayed (Err halt) (bytes_taken bytes A) old new F N P
next_halted read_stop.ReadFault halt bytes old new A F N P is h none long = subst (λ (x : Halt). NextPlayed (Err x) (bytes_taken bytes A) old new F N P) (sym is) (h.0, h.1, h.2, none)
next_halted read_stop.TooLong halt bytes old new A F N P is h none long = subst (λ (x : Halt). NextPlayed (Err x) (bytes_taken bytes A) old new F N P) (sym is) (h, none)
next_halted (read_stop.Long line) halt bytes old new A F N P is h none long =
    subst (λ (x : Halt). NextPlayed (Err x) (bytes_taken bytes A) old new F N P) (sym (is ∙ ap (λ (k : ℕ). Stopped (BadInput k line_fault.Long)) h.0))
    (h.1.text, h.1.rest, record { first = h.1.first; used = h.1.used; near = h.1.near }, long h.1.text h.1.long)

-- what is played of a text, from a player that stands after lines, and which boards keep their bytes, where the replay began with
-- these boards
abbrev pub TextPlays : Result (Unit {0}) Stop → (text : List ℕ) → (number : ℕ) → (initial : List Device) → (a b : ReplayState) → (failed : Type 0) → Type 0
TextPlays r text number initial a b failed = TextKeepsBytes a.player.place text a.boards b.boards
    × ((table : List Row) (so_far : DoneSoFar) → Stood a.player so_far.lines so_far.world initial a.boards → TextAnswer (based_on table initial) r (line_read text number) so_far a b failed)

-- a line that was given was played
pub given_next : (r : Result Bool Halt) (o : Option ℕ) (n : ℕ) (text bytes : List ℕ) (old new : Reading) (A F N : Type 0) (P : Result (Unit {0}) Stop → List ℕ → ℕ → Type 0) → o ≡ Some n → text ≡ new.text
    → NextAnswer (Ok o) bytes old new A F → GivenPlayed r (λ x. P x text n) → NextPlayed r (bytes_taken bytes A) old new F N (λ x t. P x t (old.number + 1))
given_next r o n text bytes old new A F N P some same h played =
    let g : NextAnswer (Ok (Some n)) bytes old new A F = subst (λ (x : Option ℕ). NextAnswer (Ok x) bytes old new A F) some h in
    let at : n ≡ old.number + 1 = g.0 ∙ g.1.number in
    let there : GivenPlayed r (λ x. P x new.text (old.number + 1)) = subst (λ (t : List ℕ). GivenPlayed r (λ x. P x t (old.number + 1))) same (subst (λ (k : ℕ). GivenPlayed r (λ x. P x text k)) at played) in
    next_given r n bytes old new A F N (λ x t. P x t (old.number + 1)) g there

-- nothing is played of a line that is too long
pub long_plays : (initial : List Device) (a : ReplayState) (n : ℕ) (failed : Type 0) (text : List ℕ) → most_line < length text → TextPlays (Err (BadInput n line_fault.Long)) text n initial a a failed
long_plays initial a n failed text long = (text_same a.player.place text a.boards a.boards refl, λ table so_far s. (refl, long_line a.player.place text long, record { boards = refl; written = refl; seen = stays_same a.saw }))
