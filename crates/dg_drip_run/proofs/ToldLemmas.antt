-- What is reported of the lines that were played, and what was taken after them.
use Rattle.std.proofs.Common.{◌≡◌, ◌⊎◌, inl, inr, ⊎_elim, ℕ, ◌≤◌, ◌+◌, ◌-◌, List, [], ◌∷◌, ◌++◌, length, take, drop, take-append-drop, refl, sym, append-nil, arith}
use Rattle.std.proofs.lemmas.List.{length-drop}
use Rattle.dg_base.specs.Outside.{Puts}
use Rattle.dg_base.proofs.OutsideLemmas.{Puts-join}
use Rattle.dg_lines.specs.LineReading.{HasNoEnd, IsLine, IsLastLine, FirstLine}
use Rattle.dg_script.specs.Sizes.{most_used_bytes}
use Rattle.dg_lines.specs.LineReading.{most_kept}
use Rattle.dg_drip_script.specs.Scripts.{report_of}
use Rattle.dg_outside.specs.Outside.{OutputState}
use Rattle.dg_drip_run.specs.Dripped.{AreTold, FewAhead}
use Rattle.dg_drip_run.specs.inner.Lines.{DripStage, LinesPlayed}

-- one line at most, with its LF or without it
abbrev IsOneLine : List ℕ → Type 0
IsOneLine bytes = (before : List ℕ) × HasNoEnd before × ((bytes ≡ before) ⊎ (bytes ≡ before ++ 10 ∷ []))

pub told_all : (ended : Type 0) (first now : DripStage) (after : OutputState) (number : ℕ) → (i : LinesPlayed ended first number now) → (more : List ℕ) × Puts now.output.written after.written more → AreTold i.texts first.output.written after.written
told_all ended first now after number i m = record {
  first = i.texts;
  last = inl refl;
  script = i.script;
  says = i.says;
  few = i.plays.few;
  more = m.0;
  put = Puts-join first.output.written now.output.written after.written (report_of i.script) m.0 i.put m.1;
}

pub told_but_last : (first p q : DripStage) (number : ℕ) (text : List ℕ) → (i : LinesPlayed ⊥ first number p) → (more : List ℕ) × Puts p.output.written q.output.written more → AreTold (i.texts ++ text ∷ []) first.output.written q.output.written
told_but_last first p q number text i m = record {
  first = i.texts;
  last = inr (text, refl);
  script = i.script;
  says = i.says;
  few = i.plays.few;
  more = m.0;
  put = Puts-join first.output.written p.output.written q.output.written (report_of i.script) m.0 i.put m.1;
}

one_line : (text line rest : List ℕ) (E : Type 0) → IsLine text line ⊎ (IsLastLine text line × (rest ≡ []) × E) → IsOneLine line
one_line text line rest E h = ⊎_elim (λ l. (l.before, l.whole, inr l.ended)) (λ l. (line, l.0.whole, inl refl)) h

no_line : IsOneLine []
no_line = ([], none, inl refl)
  where
    none : HasNoEnd []
    none = λ k d within. absurd (omega (arith, within))

pub behind_line_given : (bytes : List ℕ) (at_end : Type 0) (text rest : List ℕ) → FirstLine bytes at_end text rest → length rest ≤ most_kept → FewAhead bytes
behind_line_given bytes at_end text rest f near = record { next = f.line; rest = rest; parts = f.parts; one = one_line text f.line rest at_end f.is; near = near }

pub rest_only : (bytes : List ℕ) → length bytes ≤ most_kept → FewAhead bytes
rest_only bytes near = record { next = []; rest = bytes; parts = refl; one = no_line; near = near }

pub line_only : (bytes : List ℕ) → HasNoEnd bytes → FewAhead bytes
line_only bytes none = record { next = bytes; rest = []; parts = sym (append-nil bytes); one = (bytes, none, inl refl); near = omega arith }

one_byte_more : (most passed : ℕ) (bytes : List ℕ) → passed + length bytes ≡ most + 1 → passed ≤ most → length (drop (most - passed) bytes) ≤ 1
one_byte_more most passed bytes all low = omega (arith, all, low, length-drop (most - passed) bytes)

pub too_many_ahead : (passed : ℕ) (bytes : List ℕ) → passed ≤ most_used_bytes → passed + length bytes ≡ most_used_bytes + 1 → HasNoEnd (take (most_used_bytes - passed) bytes) → FewAhead bytes
too_many_ahead passed bytes low all none = record {
  next = take (most_used_bytes - passed) bytes;
  rest = drop (most_used_bytes - passed) bytes;
  parts = sym (take-append-drop (most_used_bytes - passed) bytes);
  one = (take (most_used_bytes - passed) bytes, none, inl refl);
  near = omega (arith, one_byte_more most_used_bytes passed bytes all low);
}
