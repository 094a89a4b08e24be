-- The rows of moments among others.
use Rattle.std.proofs.Common.{◌≡◌, ℕ, zero, suc, ◌<◌, ◌++◌, ◌∷◌, [], List, map, length, get_or, Bool, true, false, cond, ◌==◌, nat_lt, ◌||◌, refl, ap, sym, ◌∙◌, append_assoc, append-nil, arith}
use Rattle.std.specs.Prelude.{codes}
use Rattle.std.specs.List.{filter}
use Rattle.std.specs.Fmt.{decimal}
use Rattle.std.proofs.lemmas.List.Elements.{filter-append}
use Rattle.dg_cost_text.specs.Table.{entry_of, table_of_rows, named_rows, share_rows, shared_rows}
use Rattle.dg_cost_text.specs.Moments.{key_text, whole_key, what_key, rows_at, is_moment_key, BeginsNoMoment, moments_in, AddsNoMoment}
use Rattle.dg_cost_text.specs.declared.moment.Moment.{Moment}
use Rattle.dg_cost_text.specs.declared.moment.What.{What}
use Rattle.dg_cost_text.specs.declared.moment.What.TheVariants.{Whole, All as AllHave, Newest}
use Rattle.dg_cost_text.specs.declared.rows.Row.{Row}
use Rattle.dg_cost_text.specs.declared.rows.Rows.{Rows}
use Rattle.dg_meter.specs.declared.share.Share.{Share}

abbrev pub Entries : Type 0
Entries = List (List ℕ × ℕ)

-- the rows of a moment are among them
pub whole_rows_in : (image version times : ℕ) (at : Moment) → moments_in (rows_at (whole_key image version times) at) ≡ rows_at (whole_key image version times) at
whole_rows_in image version times at = by (nat_lt 1 times)
  where
    again : List ℕ
    again = key_text (codes "whole." ∷ decimal image ∷ codes "." ∷ decimal version ∷ codes ".again." ∷ decimal times ∷ [])

    first : List ℕ
    first = key_text (codes "whole." ∷ decimal image ∷ codes "." ∷ decimal version ∷ [])

    by : (b : Bool) → moments_in (rows_at (cond b again first) at) ≡ rows_at (cond b again first) at
    by true = refl
    by false = refl

pub what_rows_in : (what : What) (at : Moment) → moments_in (rows_at (what_key what) at) ≡ rows_at (what_key what) at
what_rows_in (Whole image version times) at = whole_rows_in image version times at
what_rows_in (AllHave image version) at = refl
what_rows_in (Newest image) at = refl

-- ---- rows that are added

-- more rows
pub moments_more : {new : Entries} (old more : Entries) → new ≡ old ++ more → moments_in new ≡ moments_in old ++ moments_in more
moments_more {new} old more is = ap (λ (t : Entries). moments_in t) is ∙ filter-append (λ (row : List ℕ × ℕ). is_moment_key row.0) old more

-- with rows that are all of moments
pub all_more : {new : Entries} (old more : Entries) → new ≡ old ++ more → moments_in more ≡ more → moments_in new ≡ moments_in old ++ more
all_more {new} old more is all = moments_more old more is ∙ ap (λ (t : Entries). moments_in old ++ t) all

-- without them: the table so far first, then what was added to it
pub none_yet : {table : Entries} → table ≡ [] → AddsNoMoment [] table
none_yet {table} is = record { same = ap (λ (t : Entries). moments_in t) is }

pub none_added : (table : Entries) → AddsNoMoment table table
none_added table = record { same = refl }

pub none_then : {old mid new : Entries} (more : Entries) → AddsNoMoment old mid → new ≡ mid ++ more → moments_in more ≡ [] → AddsNoMoment old new
none_then {old} {mid} {new} more so is none = record {
  same = moments_more mid more is ∙ ap (λ (t : Entries). moments_in mid ++ t) none ∙ append-nil (moments_in mid) ∙ so.same;
}

pub then_none : {old mid new : Entries} → AddsNoMoment old mid → AddsNoMoment mid new → AddsNoMoment old new
then_none {old} {mid} {new} so more = record { same = more.same ∙ so.same }

pub part_then : {old mid new part : Entries} → AddsNoMoment old mid → AddsNoMoment [] part → new ≡ mid ++ part → AddsNoMoment old new
part_then {old} {mid} {new} {part} so none is = none_then part so is none.same

-- ---- rows whose keys have one beginning

none_first : (row : List ℕ × ℕ) (rows : Entries) → is_moment_key row.0 ≡ false → moments_in rows ≡ [] → moments_in (row ∷ rows) ≡ []
none_first row rows other none = ap (λ (b : Bool). cond b (row ∷ moments_in rows) (moments_in rows)) other ∙ none

pub key_then : {old mid new : Entries} (key : List ℕ) (value : ℕ) → AddsNoMoment old mid → new ≡ mid ++ (key, value) ∷ [] → is_moment_key key ≡ false
    → AddsNoMoment old new
key_then {old} {mid} {new} key value so is other = none_then ((key, value) ∷ []) so is (none_first (key, value) [] other refl)

pub begun_then : {old mid new : Entries} (before rest ending : List ℕ) (value : ℕ) → AddsNoMoment old mid
    → new ≡ mid ++ ((before ++ rest) ++ ending, value) ∷ [] → BeginsNoMoment before → AddsNoMoment old new
begun_then {old} {mid} {new} before rest ending value so is other =
    none_then (((before ++ rest) ++ ending, value) ∷ []) so is
    (none_first ((before ++ rest) ++ ending, value) [] (ap is_moment_key (append_assoc before rest ending) ∙ other (rest ++ ending)) refl)

pub named_none : (before after : List ℕ) (names : List (List ℕ)) (values : List ℕ) → BeginsNoMoment before → moments_in (named_rows before after names values) ≡ []
named_none before after [] values other = refl
named_none before after (name ∷ names) [] other = refl
named_none before after (name ∷ names) (value ∷ values) other =
    none_first (before ++ (name ++ after), value) (named_rows before after names values) (other (name ++ after)) (named_none before after names values other)

pub named_then : {old mid new : Entries} (before after : List ℕ) (names : List (List ℕ)) (values : List ℕ) → AddsNoMoment old mid
    → new ≡ mid ++ named_rows before after names values → BeginsNoMoment before → AddsNoMoment old new
named_then {old} {mid} {new} before after names values so is other =
    none_then (named_rows before after names values) so is (named_none before after names values other)

pub share_none : (before name : List ℕ) (count bytes : ℕ) → BeginsNoMoment before → moments_in (share_rows before name count bytes) ≡ []
share_none before name count bytes other =
    none_first (before ++ (name ++ codes ".count"), count) ((before ++ (name ++ codes ".bytes"), bytes) ∷ []) (other (name ++ codes ".count"))
    (none_first (before ++ (name ++ codes ".bytes"), bytes) [] (other (name ++ codes ".bytes")) refl)

pub share_then : {old mid new : Entries} (before name : List ℕ) (count bytes : ℕ) → AddsNoMoment old mid
    → new ≡ mid ++ share_rows before name count bytes → BeginsNoMoment before → AddsNoMoment old new
share_then {old} {mid} {new} before name count bytes so is other =
    none_then (share_rows before name count bytes) so is (share_none before name count bytes other)

pub shared_none : (before : List ℕ) (names : List (List ℕ)) (shares : List Share) → BeginsNoMoment before → moments_in (shared_rows before names shares) ≡ []
shared_none before [] shares other = refl
shared_none before (name ∷ names) [] other = refl
shared_none before (name ∷ names) (share ∷ shares) other =
    moments_more (share_rows before name share.count share.bytes) (shared_rows before names shares) refl
    ∙ ap (λ (t : Entries). t ++ moments_in (shared_rows before names shares)) (share_none before name share.count share.bytes other)
    ∙ shared_none before names shares other

pub shared_then : {old mid new : Entries} (before : List ℕ) (names : List (List ℕ)) (shares : List Share) → AddsNoMoment old mid
    → new ≡ mid ++ shared_rows before names shares → BeginsNoMoment before → AddsNoMoment old new
shared_then {old} {mid} {new} before names shares so is other =
    none_then (shared_rows before names shares) so is (shared_none before names shares other)

-- ---- rows that are summed

abbrev is_summed : Row → Bool
is_summed row = row.summed

-- whether the first row is of a moment, and whether it is summed
first_cases : (row : Row) (rows more : List Row) (m s : Bool) → is_moment_key row.key.items ≡ m → (moments_in (map entry_of rows) ≡ [] → moments_in (map entry_of more) ≡ [])
    → cond m (entry_of row ∷ moments_in (map entry_of rows)) (moments_in (map entry_of rows)) ≡ [] → moments_in (map entry_of (cond s (row ∷ more) more)) ≡ []
first_cases row rows more true s is rest none = cc
first_cases row rows more false true is rest none = none_first (entry_of row) (map entry_of more) is (rest none)
first_cases row rows more false false is rest none = rest none

-- none is of a moment where no row is
pub none_summed : (rows : List Row) → moments_in (map entry_of rows) ≡ [] → moments_in (map entry_of (filter is_summed rows)) ≡ []
none_summed [] none = refl
none_summed (row ∷ rows) none =
    first_cases row rows (filter is_summed rows) (is_moment_key row.key.items) row.summed refl (none_summed rows) none

-- a summed row is of no moment
not_first : (row : Row) (rows : List Row) (m s : Bool) → is_moment_key row.key.items ≡ m → s ≡ true
    → moments_in (map entry_of (cond s (row ∷ rows) rows)) ≡ [] → m ≡ false
not_first row rows true true is summed none = cc
not_first row rows false s is summed none = refl
not_first row rows true false is summed none = cc

none_rest : (row : Row) (rows : List Row) (m s : Bool) → is_moment_key row.key.items ≡ m → moments_in (map entry_of (cond s (row ∷ rows) rows)) ≡ []
    → moments_in (map entry_of rows) ≡ []
none_rest row rows m false is none = none
none_rest row rows true true is none = cc
none_rest row rows false true is none =
    sym (ap (λ (b : Bool). cond b (entry_of row ∷ moments_in (map entry_of rows)) (moments_in (map entry_of rows))) is) ∙ none

pub summed_at : (rows : List Row) (i : ℕ) (row : Row) → i < length rows → row ≡ get_or rows i row → row.summed ≡ true
    → moments_in (map entry_of (filter is_summed rows)) ≡ [] → is_moment_key row.key.items ≡ false
summed_at [] i row lt is summed none = absurd (omega arith)
summed_at (x ∷ rows) zero row lt is summed none =
    ap (λ (r : Row). is_moment_key r.key.items) is
    ∙ not_first x (filter is_summed rows) (is_moment_key x.key.items) x.summed refl (sym (ap is_summed is) ∙ summed) none
summed_at (x ∷ rows) (suc i) row lt is summed none =
    summed_at rows i row (omega arith) is summed (none_rest x (filter is_summed rows) (is_moment_key x.key.items) x.summed refl none)
