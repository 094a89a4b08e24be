-- How the counts of a meter rise.
use Rattle.std.proofs.Common.{◌≡◌, ℕ, ◌+◌, ◌-◌, List, [], ◌∷◌, ◌++◌, length, false, Some, inl, inr, refl, sym, ◌∙◌, subst, arith}
use Rattle.std.specs.List.{fold, sum}
use Rattle.std.proofs.lemmas.Bool.{both_ways, cases_lt}
use Rattle.std.proofs.lemmas.List.{get_or_append_left, get_or-append_right}
use Rattle.std.proofs.lemmas.List.Sums.{fold-append}
use Rattle.dg_nor.specs.Device.{Device, PartsRise, Ran, Refilled}
use Rattle.dg_nor.proofs.DeviceLemmas.{PartsRise-none}
use Rattle.dg_meter.specs.Shares.{counts_in}
use Rattle.dg_meter.specs.Tallies.{counts_of}
use Rattle.dg_meter.specs.declared.shares.Shares.{Shares}
use Rattle.dg_meter.specs.declared.tally.Tally.{Tally}

-- what is added to a sum
sum_from : (n : ℕ) (xs : List ℕ) → fold (λ (a x : ℕ). a + x) n xs ≡ n + sum xs
sum_from n [] = omega arith
sum_from n (x ∷ xs) = omega (arith, sum_from (n + x) xs, sum_from (0 + x) xs)

sum_append : (xs ys : List ℕ) → sum (xs ++ ys) ≡ sum xs + sum ys
sum_append xs ys = fold-append (λ (a x : ℕ). a + x) 0 xs ys ∙ sum_from (sum xs) ys

-- counts rise, and those after them do not
rise_before : (xs ys zs : List ℕ) (n : ℕ) → length xs ≡ length ys → PartsRise n xs ys → PartsRise n (xs ++ zs) (ys ++ zs)
rise_before xs ys zs n same rises = record {
  each = λ k. elim (cases_lt k (length xs)) [
    | inl lt ↦ omega (arith, get_or_append_left xs zs 0 k lt, get_or_append_left ys zs 0 k (omega (arith, lt, same)), rises.each k)
    | inr ge ↦ omega (arith, get_or-append_right xs zs (length xs) k 0 refl ge, get_or-append_right ys zs (length xs) k 0 (sym same) ge)
  ];
  total = λ fits. omega (arith, sum_append xs zs, sum_append ys zs, rises.total (omega (arith, fits, sum_append xs zs)));
}

-- counts rise, and those before them do not
rise_after : (xs ys zs : List ℕ) (n : ℕ) → PartsRise n ys zs → PartsRise n (xs ++ ys) (xs ++ zs)
rise_after xs ys zs n rises = record {
  each = λ k. elim (cases_lt k (length xs)) [
    | inl lt ↦ omega (arith, get_or_append_left xs ys 0 k lt, get_or_append_left xs zs 0 k lt)
    | inr ge ↦ omega (arith, get_or-append_right xs ys (length xs) k 0 refl ge, get_or-append_right xs zs (length xs) k 0 refl ge, rises.each (k - length xs))
  ];
  total = λ fits. omega (arith, sum_append xs ys, sum_append xs zs, rises.total (omega (arith, fits, sum_append xs ys)));
}

-- erases rise, and programs do not
pub erases_rise : (a b : Tally) → b.programs ≡ a.programs → PartsRise 1 (counts_in a.erases) (counts_in b.erases) → PartsRise 1 (counts_of a) (counts_of b)
erases_rise a b same rises =
    subst (λ (p : Shares). PartsRise 1 (counts_of a) (counts_in p ++ counts_in b.erases)) (sym same)
    (rise_after (counts_in a.programs) (counts_in a.erases) (counts_in b.erases) 1 rises)

-- programs rise, and erases do not
pub programs_rise : (a b : Tally) → b.erases ≡ a.erases → PartsRise 1 (counts_in a.programs) (counts_in b.programs) → PartsRise 1 (counts_of a) (counts_of b)
programs_rise a b same rises =
    subst (λ (e : Shares). PartsRise 1 (counts_of a) (counts_in b.programs ++ counts_in e)) (sym same)
    (rise_before (counts_in a.programs) (counts_in b.programs) (counts_in a.erases) 1 refl rises)

-- ---- of a meter

-- what is known of a meter, by its chip and what it counted
abbrev pub meter : Device → Tally → Device
meter d t = record d { made = Some (counts_of t) }

pub meter_ran : {n : ℕ} {a b : Device} (s t : Tally) → a.stopped ≡ false → PartsRise n (counts_of s) (counts_of t) → Ran n a b → Ran n (meter a s) (meter b t)
meter_ran {n} {a} {b} s t awake rises ran = record {
  left = ran.left;
  stopped = ran.stopped;
  unchanged = λ stopped. absurd (both_ways a.stopped awake stopped);
  blown = ran.blown;
  faults = ran.faults;
  taken = ran.taken;
  references = ran.references;
  made = rises;
  beneath = ran.beneath;
}

-- a whole sector was programmed, which is not counted
pub meter_refilled : {a b : Device} (s t : Tally) → a.stopped ≡ false → t ≡ s → Refilled a b → Refilled (meter a s) (meter b t)
meter_refilled {a} s t awake same r = record {
  left = r.left;
  stopped = r.stopped;
  unchanged = λ stopped. absurd (both_ways a.stopped awake stopped);
  blown = r.blown;
  faults = r.faults;
  taken = r.taken;
  references = r.references;
  made = subst (λ (u : Tally). PartsRise 0 (counts_of s) (counts_of u)) (sym same) (PartsRise-none (counts_of s));
  beneath = r.beneath;
}
