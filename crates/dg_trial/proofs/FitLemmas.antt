-- The numbers of a schedule are in their ranges, and its parts are few enough.
use Rattle.std.proofs.Common.{◌≡◌, ◌≢◌, ℕ, zero, suc, ◌+◌, ◌-◌, ◌*◌, ◌/◌, ◌%◌, ◌==◌, ◌<◌, ◌≤◌, Bool, true, false, if◌then◌else◌, nat_lt, List, [], ◌∷◌, ◌++◌, length, map, replicate, refl, ap, sym, ◌∙◌, arith, length-append, eqb}
use Rattle.std.proofs.Math.Nat.{mul-le-mul}
use Rattle.std.proofs.lemmas.Bool.{eqb-true, eqb-false}
use Rattle.std.proofs.lemmas.List.{length-map}
use Rattle.std.specs.List.{AllByRecursion}
use Rattle.rand_pcg.specs.Lcg.{Lcg}
use Rattle.rand_pcg.specs.Pcg.{pcg32}
use Rattle.dg_base.specs.declared.events.Event.{Event}
use Rattle.dg_base.specs.declared.events.Event.TheVariants.{Tick, Hear, Last, Reset, Inject}
use Rattle.dg_rounds.specs.Rounds.{times, sweep, round, paced, passed}
use Rattle.dg_script.specs.Ranges.{AreTwo, EventInRange, StepInRange}
use Rattle.dg_rules.specs.Premises.{LinkFits}
use Rattle.dg_completion.proofs.GrowLemmas.{all_append, all_replicate, all_times}
use Rattle.dg_trial.specs.Schedule.{SchedulePart, always, line_links, resets, beside, disturbed_at, disturbances, opening}
use Rattle.dg_trial.specs.inner.Words.{cut_reset}
use Rattle.dg_trial.specs.Playing.{PartFits}
use Rattle.dg_world.specs.Alone.{uncut}

-- ---- in their ranges

uncut_fits : (motes : ℕ) (e : Event) → EventInRange motes e → StepInRange motes (uncut e)
uncut_fits motes e fits = record { event = fits; cut = tt }

pub always_fit : (motes : ℕ) (es : List Event) → AllByRecursion (EventInRange motes) es → AllByRecursion (PartFits motes) (map always es)
always_fit motes [] a = tt
always_fit motes (e ∷ es) a = (λ sent. uncut_fits motes e a.0, always_fit motes es a.1)

pub resets_fit : (motes n : ℕ) → n ≤ motes → AllByRecursion (EventInRange motes) (resets n)
unfolding resets
resets_fit motes zero h = tt
resets_fit motes (suc n) h = all_append (EventInRange motes) (resets n) (Reset n 0 0 ∷ []) (resets_fit motes n (omega arith)) (let low : n < motes = omega arith in low, tt)

beside_by : (b : Bool) (motes a : ℕ) → eqb (a + 1) motes ≡ b → 2 ≤ motes → a < motes → ((if b then a - 1 else a + 1) < motes) × ((if b then a - 1 else a + 1) ≢ a)
beside_by true motes a e some low =
    let h : a + 1 ≡ motes = eqb-true (a + 1) motes e in
    (omega (arith, h, some), λ same. let x : a - 1 ≡ a = same in omega (arith, h, some, x))
beside_by false motes a e some low =
    let h : a + 1 ≢ motes = eqb-false (a + 1) motes e in
    (omega (arith, h, low), λ same. let x : a + 1 ≡ a = same in omega (arith, x))

pub beside_fits : (motes a : ℕ) → 2 ≤ motes → a < motes → (beside motes a < motes) × (beside motes a ≢ a)
beside_fits motes a some low = beside_by (eqb (a + 1) motes) motes a refl some low

hears_fit : (motes a w3 n : ℕ) → a < motes → StepInRange motes (uncut (Hear a 1 w3 (1 + n)))
hears_fit motes a w3 n low = uncut_fits motes (Hear a 1 w3 (1 + n)) (low, omega arith)

cut_fits : (motes a w2 w3 : ℕ) → a < motes → StepInRange motes (cut_reset a w2 w3)
cut_fits motes a w2 w3 low = record { event = low; cut = record { counted = omega arith; some = omega arith; few = omega arith } }

disturbed_by : (ticks lasts hears : Bool) (motes a w2 w3 sent : ℕ) → 2 ≤ motes → a < motes
    → StepInRange motes (if ticks then uncut (Tick a (w2 % 1024) w3) else if lasts then uncut (Last (beside motes a) a (w2 % 1024) w3) else if hears then uncut (Hear a 1 w3 (1 + w2 % (sent + 1))) else cut_reset a w2 w3)
disturbed_by true lasts hears motes a w2 w3 sent some low = uncut_fits motes (Tick a (w2 % 1024) w3) low
disturbed_by false true hears motes a w2 w3 sent some low = let b = beside_fits motes a some low in uncut_fits motes (Last (beside motes a) a (w2 % 1024) w3) (record { first = b.0; second = low; two = b.1 })
disturbed_by false false true motes a w2 w3 sent some low = hears_fit motes a w3 (w2 % (sent + 1)) low
disturbed_by false false false motes a w2 w3 sent some low = cut_fits motes a w2 w3 low

disturbed_fits : (motes a kind w2 w3 sent : ℕ) → 2 ≤ motes → a < motes → StepInRange motes (disturbed_at motes a kind w2 w3 sent)
disturbed_fits motes a kind w2 w3 sent some low = disturbed_by (nat_lt kind 4) (nat_lt kind 6) (kind == 6) motes a w2 w3 sent some low

mod_low : (w n : ℕ) → 2 ≤ n → w % n < n
mod_low w n h = omega arith

pub disturbances_fit : (motes n : ℕ) (g : Lcg) → 2 ≤ motes → AllByRecursion (PartFits motes) (disturbances motes n g)
unfolding disturbances
disturbances_fit motes zero g some = tt
disturbances_fit motes (suc n) g some =
    let a = pcg32 g in
    let b = pcg32 a.1 in
    let c = pcg32 b.1 in
    (λ sent. disturbed_fits motes (a.0 % motes) (a.0 / 65536 % 8) b.0 c.0 sent some (mod_low a.0 motes some), disturbances_fit motes n c.1 some)

-- the links of a line
pub line_fits : (motes n : ℕ) → n ≤ motes → AllByRecursion (LinkFits motes) (line_links n)
unfolding line_links
line_fits motes zero h = tt
line_fits motes (suc zero) h = tt
line_fits motes (suc (suc n)) h = (record { first = omega arith; second = omega arith; two = λ e. let x : n ≡ n + 1 = e in omega (arith, x) }, line_fits motes (suc n) (omega arith))

turned : (motes a b : ℕ) → AreTwo motes a b → AreTwo motes b a
turned motes a b l = record { first = l.second; second = l.first; two = λ same. l.two (sym same) }

round_fits : (motes a b : ℕ) → AreTwo motes a b → AllByRecursion (EventInRange motes) (round a b)
unfolding round
round_fits motes a b l =
    let P : Event → Type 0 = EventInRange motes in
    let first : a < motes = l.first in
    let second : b < motes = l.second in
    let there : EventInRange motes (passed a b) = l in
    let back : EventInRange motes (passed b a) = turned motes a b l in
    let tail : List Event = passed a b ∷ paced b ∷ passed b a ∷ times 48 (paced a ∷ passed a b ∷ []) in
    let three : AllByRecursion P (replicate 3 (paced a) ++ tail) =
    all_append P (replicate 3 (paced a)) tail (all_replicate P 3 (paced a) first) (there, (second, (back, all_times P 48 (paced a ∷ passed a b ∷ []) (first, (there, tt))))) in
    all_append P (replicate 50 (paced a)) (replicate 50 (paced b) ++ (replicate 3 (paced a) ++ tail)) (all_replicate P 50 (paced a) first)
    (all_append P (replicate 50 (paced b)) (replicate 3 (paced a) ++ tail) (all_replicate P 50 (paced b) second) three)

pub sweep_fits : (motes : ℕ) (links : List (ℕ × ℕ)) → AllByRecursion (LinkFits motes) links → AllByRecursion (EventInRange motes) (sweep links)
unfolding sweep
sweep_fits motes [] a = tt
sweep_fits motes (l ∷ links) a =
    let P : Event → Type 0 = EventInRange motes in
    all_append P (round l.0 l.1) (round l.1 l.0 ++ sweep links) (round_fits motes l.0 l.1 a.0)
    (all_append P (round l.1 l.0) (sweep links) (round_fits motes l.1 l.0 (turned motes l.0 l.1 a.0)) (sweep_fits motes links a.1))

pub schedule_fits : (motes n sweeps : ℕ) (g : Lcg) → 2 ≤ motes → AllByRecursion (PartFits motes) (opening motes ++ (disturbances motes n g ++ map always (resets motes ++ times sweeps (sweep (line_links motes)))))
schedule_fits motes n sweeps g some =
    let P : SchedulePart → Type 0 = PartFits motes in
    let first : 0 < motes = omega arith in
    let all : motes ≤ motes = omega arith in
    let rest : List Event = resets motes ++ times sweeps (sweep (line_links motes)) in
    all_append P (opening motes) (disturbances motes n g ++ map always rest)
    (all_append P (map always (resets motes)) (always (Inject 0 1 1 0 0) ∷ []) (always_fit motes (resets motes) (resets_fit motes motes all)) (λ sent. uncut_fits motes (Inject 0 1 1 0 0) (first, record { image = omega arith; version = omega arith }), tt))
    (all_append P (disturbances motes n g) (map always rest) (disturbances_fit motes n g some)
    (always_fit motes rest (all_append (EventInRange motes) (resets motes) (times sweeps (sweep (line_links motes))) (resets_fit motes motes all) (all_times (EventInRange motes) sweeps (sweep (line_links motes)) (sweep_fits motes (line_links motes) (line_fits motes motes all))))))

-- ---- how many they are

pub length-resets : (n : ℕ) → length (resets n) ≡ n
unfolding resets
length-resets zero = refl
length-resets (suc n) = let e = length-resets n in omega (arith, length-append (resets n) (Reset n 0 0 ∷ []), e)

pub length-disturbances : (motes n : ℕ) (g : Lcg) → length (disturbances motes n g) ≡ n
unfolding disturbances
length-disturbances motes zero g = refl
length-disturbances motes (suc n) g = ap suc (length-disturbances motes n (pcg32 (pcg32 (pcg32 g).1).1).1)

pub length-times : (n : ℕ) (xs : List Event) → length (times n xs) ≡ n * length xs
unfolding times
length-times zero xs = omega arith
length-times (suc n) xs = let e = length-times n xs in omega (arith, length-append xs (times n xs), e)

pub length-round : (a b : ℕ) → length (round a b) ≡ 202
unfolding round times
length-round a b = refl

pub length-sweep : (links : List (ℕ × ℕ)) → length (sweep links) ≡ 404 * length links
unfolding sweep
length-sweep [] = refl
length-sweep (l ∷ links) =
    let e : length (sweep links) ≡ 404 * length links = length-sweep links in
    omega (arith, length-append (round l.0 l.1) (round l.1 l.0 ++ sweep links), length-append (round l.1 l.0) (sweep links), length-round l.0 l.1, length-round l.1 l.0, e)

pub length-line : (n : ℕ) → 1 ≤ n → length (line_links n) + 1 ≡ n
unfolding line_links
length-line zero h = absurd (omega arith)
length-line (suc zero) h = refl
length-line (suc (suc n)) h = let e = length-line (suc n) (omega arith) in omega (arith, e)

few_sweeps : (sweeps far : ℕ) → sweeps ≤ 79 → far ≤ 15 → sweeps * (404 * far) ≤ 478740
few_sweeps sweeps far a b =
    let c : 404 * far ≤ 6060 = omega arith in
    let d : sweeps * (404 * far) ≤ 79 * 6060 = mul-le-mul a c in
    omega (arith, d)

-- the events of a schedule: a reset of each mote at the beginning and at the end, the injection, the disturbances, and the rounds
pub length-schedule : (motes n sweeps : ℕ) (g : Lcg) → 1 ≤ motes
    → length (opening motes ++ (disturbances motes n g ++ map always (resets motes ++ times sweeps (sweep (line_links motes))))) ≡ 2 * motes + 1 + n + sweeps * (404 * (motes - 1))
length-schedule motes n sweeps g some =
    let es : List Event = times sweeps (sweep (line_links motes)) in
    let a = length-append (opening motes) (disturbances motes n g ++ map always (resets motes ++ es)) in
    let b = length-append (disturbances motes n g) (map always (resets motes ++ es)) in
    let c : length (map always (resets motes ++ es)) ≡ length (resets motes ++ es) = length-map (resets motes ++ es) always in
    let d = length-append (resets motes) es in
    let e = length-append (map always (resets motes)) (always (Inject 0 1 1 0 0) ∷ []) in
    let f : length (map always (resets motes)) ≡ length (resets motes) = length-map (resets motes) always in
    let h = length-resets motes in
    let i = length-disturbances motes n g in
    let j = length-times sweeps (sweep (line_links motes)) in
    let k : length (sweep (line_links motes)) ≡ 404 * (motes - 1) = length-sweep (line_links motes) ∙ ap (λ (x : ℕ). 404 * x) (let l = length-line motes some in let m : length (line_links motes) ≡ motes - 1 = omega (arith, l) in m) in
    let o : sweeps * length (sweep (line_links motes)) ≡ sweeps * (404 * (motes - 1)) = ap (λ (x : ℕ). sweeps * x) k in
    omega (arith, a, b, c, d, e, f, h, i, j, o)

pub few_events : (motes sweeps : ℕ) (g : Lcg) → 2 ≤ motes → motes ≤ 16 → sweeps ≤ 79
    → length (opening motes ++ (disturbances motes (100 * motes) g ++ map always (resets motes ++ times sweeps (sweep (line_links motes))))) ≤ 1000000
few_events motes sweeps g some few s =
    let e = length-schedule motes (100 * motes) sweeps g (omega arith) in
    let b = few_sweeps sweeps (motes - 1) s (omega arith) in
    omega (arith, e, b)
