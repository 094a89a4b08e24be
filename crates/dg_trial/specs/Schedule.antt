-- The schedule of a trial: its steps in their order, made from a seed (docs/COMMANDS.md, "Trial"). A disturbance may depend on
-- how many frames were sent before it.
use Rattle.std.specs.Prelude.{ℕ, zero, suc, ◌+◌, ◌-◌, ◌*◌, ◌/◌, ◌%◌, ◌==◌, nat_lt, if◌then◌else◌, List, [], ◌∷◌, ◌++◌, map, codes}
use Rattle.std.specs.Prelude.{Some}
use Rattle.std.proofs.Common.{lit≤}
use Rattle.std.proofs.Math.Nat.{le-add_right}
use Rattle.rand_pcg.specs.Lcg.{Lcg}
use Rattle.rand_pcg.specs.Pcg.{pcg32}
use Rattle.dg_base.specs.declared.events.Cut.{Cut}
use Rattle.dg_base.specs.declared.events.Event.{Event}
use Rattle.dg_base.specs.declared.events.Event.TheVariants.{Tick, Hear, Last, Reset, Inject}
use Rattle.dg_base.specs.declared.events.Step.{Step}
use Rattle.dg_object.specs.Object.{Row, row_of}
use Rattle.dg_object.specs.Sizes.{page_size}
use Rattle.dg_rounds.specs.Rounds.{times, sweep}
use Rattle.dg_script.specs.Contents.{generated}
use Rattle.dg_seed.specs.Draws.{first_generator}
use Rattle.dg_world.specs.Alone.{uncut}

-- a step, where this many frames were sent before it
abbrev pub SchedulePart : Type 0
SchedulePart = ℕ → Step

-- a step that is the same however many frames were sent
abbrev pub always : Event → SchedulePart
always event = λ sent. uncut event

-- a schedule of one such step
abbrev pub only : Step → List SchedulePart
only step = (λ sent. step) ∷ []

-- ---- what is fixed

-- the links of motes in a line, the last one first
unfoldable pub line_links : ℕ → List (ℕ × ℕ)
line_links zero = []
line_links (suc zero) = []
line_links (suc (suc n)) = (n, n + 1) ∷ line_links (suc n)

-- one reset of each mote, in their order
unfoldable pub resets : ℕ → List Event
resets zero = []
resets (suc n) = resets n ++ Reset n 0 0 ∷ []

-- one for each page, and one for each link except the first
abbrev pub sweep_count : (motes pages : ℕ) → ℕ
sweep_count motes pages = pages + motes - 2

-- ---- what the draws of the seed choose

-- the next mote on the line, or the one before the last
abbrev pub beside : (motes a : ℕ) → ℕ
beside motes a = if a + 1 == motes then a - 1 else a + 1

-- the cut in the operation that one word chooses, with the mask that the other one chooses
abbrev pub drawn_cut : (w2 w3 : ℕ) → Cut
drawn_cut w2 w3 =
    record { after = 1 + w2 % 64; mask = (w3 % 256) ∷ []; numbered = le-add_right 1 (w2 % 64); some = lit≤ tt; within = lit≤ tt }

-- Of eight disturbances at a mote four are ticks. In two it hears the last frame of the next mote, in one any frame that
-- was sent, or one more, and in one it is reset and its power is cut.
abbrev pub disturbed_at : (motes mote kind w2 w3 sent : ℕ) → Step
disturbed_at motes mote kind w2 w3 sent =
    if nat_lt kind 4 then uncut (Tick mote (w2 % 1024) w3)
    else if nat_lt kind 6 then uncut (Last (beside motes mote) mote (w2 % 1024) w3)
    else if kind == 6 then uncut (Hear mote 1 w3 (1 + w2 % (sent + 1)))
    else record { event = Reset mote 0 w3; cut = Some (drawn_cut w2 w3) }

-- the disturbance that three draws choose: the mote, the kind, and what else there is to choose
abbrev pub disturbance : (motes w1 w2 w3 : ℕ) → SchedulePart
disturbance motes w1 w2 w3 = λ sent. disturbed_at motes (w1 % motes) (w1 / 65536 % 8) w2 w3 sent

-- this many disturbances, each by the next three draws of a generator
unfoldable pub disturbances : (motes n : ℕ) → Lcg → List SchedulePart
disturbances motes zero g = []
disturbances motes (suc n) g =
    let a = pcg32 g in
    let b = pcg32 a.1 in
    let c = pcg32 b.1 in
    disturbance motes a.0 b.0 c.0 ∷ disturbances motes n c.1

-- the generator after the draws of this many disturbances
unfoldable pub drawn : ℕ → Lcg → Lcg
drawn zero g = g
drawn (suc n) g = drawn n (pcg32 (pcg32 (pcg32 g).1).1).1

-- ---- the whole schedule

-- the image that the first word of the seed chooses
abbrev pub row_of_seed : (pages seed : ℕ) → Row
row_of_seed pages seed =
    let word = (pcg32 (first_generator seed)).0 in
    row_of 1 1 (codes "trial") (generated ((pages - 1) * page_size - word % page_size) seed)

-- each mote is started, and the image is injected into the first
abbrev pub opening : (motes : ℕ) → List SchedulePart
opening motes = map always (resets motes) ++ always (Inject 0 1 1 0 0) ∷ []

abbrev pub shaking : (motes seed : ℕ) → List SchedulePart
shaking motes seed = disturbances motes (100 * motes) (pcg32 (first_generator seed)).1

-- each mote is started again, and sweeps follow
abbrev pub rest_events : (motes pages : ℕ) → List Event
rest_events motes pages = resets motes ++ times (sweep_count motes pages) (sweep (line_links motes))

-- how many events it has: two resets of each mote, the injection, a hundred disturbances for each mote, and for each sweep
-- two rounds of each link, of 202 events each
abbrev pub event_count : (motes pages : ℕ) → ℕ
event_count motes pages = 102 * motes + 1 + sweep_count motes pages * (2 * (motes - 1) * 202)

abbrev pub schedule : (motes pages seed : ℕ) → List SchedulePart
schedule motes pages seed = opening motes ++ (shaking motes seed ++ map always (rest_events motes pages))
