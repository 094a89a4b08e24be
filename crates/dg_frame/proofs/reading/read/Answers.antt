use Rattle.std.proofs.Common.{◌≡◌, ℕ, ◌-◌, ◌≤◌, Bool, true, false, List, length, take, Option, Some, Ok, Err, sym, ap, subst, ◌∙◌}
use Rattle.std.specs.Prelude.{◌==◌, ◌↔◌, IsTrue, slice_index}
use Rattle.std.specs.Option.{option_map}
use Rattle.std.proofs.lemmas.Bool.{eqb-true, eqb-false, both_ways}
use Rattle.dg_base.specs.Crc.{crc_of}
use Rattle.dg_words.proofs.CellLemmas.{AreBytes_fits}
use Rattle.dg_frame.specs.Sizes.{shortest}
use Rattle.dg_frame.specs.Grammar.{half_at, kind_of}
use Rattle.dg_frame.specs.Kinds.{kind_row}
use Rattle.dg_frame.specs.Readings.{IsOfKind, IsChecked, IsReading}
use Rattle.dg_frame.specs.declared.kind.Kind.{Kind}
use Rattle.dg_frame.specs.declared.Message.{Message}
use Rattle.dg_frame.specs.Ranges.{IsInRange}
use Rattle.dg_frame.specs.declared.FrameFault.TheVariants as fault
use Rattle.dg_frame.proofs.ReadingLemmas.{is_read}
use Rattle.dg_frame.proofs.SpellingLemmas.{spelled}
use Rattle.dg_frame.proofs.reading.read.Goals as goal

-- the first byte names this kind
of_kind : (b : List ℕ) (wide : Bool) (o : Option Kind) (k : Kind) → shortest ≤ length b → option_map kind_row o ≡ kind_of wide (slice_index b 0) → o ≡ Some k → IsOfKind b wide (kind_row k).0 (kind_row k).1
of_kind b wide o k long e is = record { least = long; kind = sym e ∙ ap (option_map kind_row) is }

checked_by : (b : List ℕ) (r : Bool) → r ≡ (half_at b (length b - 2) == crc_of (take (length b - 2) b)) → r ≡ true → IsChecked b
checked_by b r e is = eqb-true _ _ (sym e ∙ is)

unchecked_by : (b : List ℕ) (r : Bool) → r ≡ (half_at b (length b - 2) == crc_of (take (length b - 2) b)) → r ≡ false → ¬ IsChecked b
unchecked_by b r e is = eqb-false _ _ (sym e ∙ is)

pub returns-then-bytes-lt-SHORTEST-clause-value : goal.returns-then-bytes-lt-SHORTEST-clause-value
returns-then-bytes-lt-SHORTEST-clause-value c = sym (is_read c.args.bytes.now c.args.wide (Err fault.Short) c.if-bytes-lt-SHORTEST.true)

pub returns-in_default-clause-value : goal.returns-in_default-clause-value
returns-in_default-clause-value c =
    sym (is_read c.args.bytes.now c.args.wide (Err fault.Kind) (c.if-bytes-lt-SHORTEST.false, sym c.of.ensures ∙ ap (option_map kind_row) c.in_default.is))

pub returns-then-bytes-size-clause-value : goal.returns-then-bytes-size-clause-value
returns-then-bytes-size-clause-value c =
    let row = kind_row c.in-Some.kind in
    let kind = of_kind c.args.bytes.now c.args.wide c.of.result c.in-Some.kind c.if-bytes-lt-SHORTEST.false c.of.ensures c.in-Some.is in
    sym (is_read c.args.bytes.now c.args.wide (Err fault.Length) (row.0, row.1, kind, λ e. c.if-bytes-size.true (e ∙ sym c.size.ensures)))

pub returns-then-not-is_checked-clause-value : goal.returns-then-not-is_checked-clause-value
returns-then-not-is_checked-clause-value c =
    let row = kind_row c.in-Some.kind in
    let kind = of_kind c.args.bytes.now c.args.wide c.of.result c.in-Some.kind c.if-bytes-lt-SHORTEST.false c.of.ensures c.in-Some.is in
    sym (is_read c.args.bytes.now c.args.wide (Err fault.Check)
    (row.0, row.1, kind, c.if-bytes-size.false ∙ c.size.ensures, unchecked_by c.args.bytes.now c.is_checked.result c.is_checked.ensures c.if-not-is_checked.true))

-- what was read
taken : (c : goal.Then-in_range) → IsReading c.args.bytes.now c.args.wide (Ok c.fields-message.result)
taken c =
    let row = kind_row c.in-Some.kind in
    let kind = of_kind c.args.bytes.now c.args.wide c.of.result c.in-Some.kind c.if-bytes-lt-SHORTEST.false c.of.ensures c.in-Some.is in (
      row.0,
      row.1,
      kind,
      c.if-bytes-size.false ∙ c.size.ensures,
      checked_by c.args.bytes.now c.is_checked.result c.is_checked.ensures c.if-not-is_checked.false,
      c.in_range.ensures.fields.0 c.if-in_range.true,
      c.fields-message.ensures,
    )

pub returns-then-in_range-clause-value : goal.returns-then-in_range-clause-value
returns-then-in_range-clause-value c = sym (is_read c.args.bytes.now c.args.wide (Ok c.fields-message.result) (taken c))

pub returns-then-in_range-clause-reading : goal.returns-then-in_range-clause-reading
returns-then-in_range-clause-reading c = taken c

pub returns-then-in_range-clause-spelled : goal.returns-then-in_range-clause-spelled
returns-then-in_range-clause-spelled c = spelled c.args.bytes.now c.args.wide c.fields-message.result (AreBytes_fits c.args.bytes.now c.type_inv.bytes) (taken c)

-- what is out of its range
refused : (c : goal.Else-in_range) → IsReading c.args.bytes.now c.args.wide (Err fault.Range)
refused c =
    let row = kind_row c.in-Some.kind in
    let kind = of_kind c.args.bytes.now c.args.wide c.of.result c.in-Some.kind c.if-bytes-lt-SHORTEST.false c.of.ensures c.in-Some.is in (
      row.0,
      row.1,
      kind,
      c.if-bytes-size.false ∙ c.size.ensures,
      checked_by c.args.bytes.now c.is_checked.result c.is_checked.ensures c.if-not-is_checked.false,
      out c.fields-message.result (row.1 c.args.bytes.now) c.args.wide c.in_range.result c.fields-message.ensures c.in_range.ensures.fields c.if-in_range.false,
    )
  where
    out : (m n : Message) (wide : Bool) (r : Bool) → m ≡ n → IsTrue r ↔ IsInRange wide m → r ≡ false → IsInRange wide n → ⊥
    out m n wide r e fits is h = both_ways r is (fits.1 (subst (IsInRange wide) (sym e) h))

pub returns-else-in_range-clause-value : goal.returns-else-in_range-clause-value
returns-else-in_range-clause-value c = sym (is_read c.args.bytes.now c.args.wide (Err fault.Range) (refused c))

pub returns-else-in_range-clause-reading : goal.returns-else-in_range-clause-reading
returns-else-in_range-clause-reading c = refused c
