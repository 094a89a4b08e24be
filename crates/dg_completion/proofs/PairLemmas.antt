-- Frames that are heard, and two motes of which one hears the other.
use Rattle.std.proofs.Common.{◌≡◌, ◌≢◌, ℕ, ◌+◌, ◌<◌, true, ◌&&◌, ◌||◌, cond, eqb, List, [], ◌∷◌, length, Option, Some, None, IfSome, Result, Ok, refl, sym, ap, subst, ◌∙◌, arith}
use Rattle.std.specs.List.{list_any}
use Rattle.dg_nor.specs.Trail.{last}
use Rattle.dg_frame.specs.declared.Message.{Message}
use Rattle.dg_frame.specs.declared.FrameFault.{FrameFault}
use Rattle.dg_frame.specs.Spelling.{frame_of}
use Rattle.dg_mote.specs.Hears.{heard_of, by_message}
use Rattle.dg_mote.specs.Effects.{silent, frame_effect}
use Rattle.dg_mote.specs.Spots.{Spot, pace, ticked, after_ticks, hears, hears_all}
use Rattle.dg_mote.specs.Completing.{SendsEach}
use Rattle.dg_rules.specs.World.{World, Site, Sent, site, wide_at, linked, last_frame}
use Rattle.dg_rules.specs.Events.{Does, Refuses, does, unless_off, hear_by, of_effect}
use Rattle.dg_rules.specs.Steps.{WorldStep, StepDoes}
use Rattle.dg_rules.specs.Premises.{WorldAgrees}
use Rattle.dg_rounds.specs.Rounds.{times, paced, passed}
use Rattle.dg_base.specs.declared.events.Step.{Step}
use Rattle.dg_script.specs.declared.report.Report.{Report}
use Rattle.dg_script.specs.declared.report.Cause.TheVariants as cause
use Rattle.dg_completion.specs.Completion.{Follows, Grows}
use Rattle.dg_completion.proofs.WalkLemmas.{Spelled, WalkLaws, said_at, At, Beside, Walks, mote_wide, wide_on, made, made_site, made_beside, newer_frame, frame_told, tick_walks}

-- ---- a frame is heard

pub hear_walks : (w u : World) (a b : ℕ) (x : Spot) (message : Message) (reports : List Report) → At w b x → linked w a b ≡ true → last_frame w a ≡ frame_told a (Some message)
    → Spelled x.mote.wide message → WorldStep w (record { event = passed a b; cut = None }) u reports → Walks b w u (hears x w.moment message) None 0
unfolding WorldStep does frame_told frame_effect heard_of hears
hear_walks w u a b x message reports at link sent spelled walk =
    let step : Step = record { event = passed a b; cut = None } in
    let now : w.moment + 0 ≡ w.moment = omega arith in
    let f : Sent = record { by = a; bytes = frame_of message } in
    let d1 = subst (λ (s : Site). StepDoes (unless_off s.runs (cond (linked w a b) (hear_last_by s (last_frame w a)) (Refuses cause.Link))) w step u reports) at.site_is walk in
    let d2 = subst (λ c. StepDoes (cond c (hear_last_by here (last_frame w a)) (Refuses cause.Link)) w step u reports) link d1 in
    let d3 = subst (λ o. StepDoes (hear_last_by here o) w step u reports) sent d2 in
    let d4 = subst (λ (m : Result Message FrameFault). StepDoes (of_effect w (silent (by_message m x.mote x.store (w.moment + 0) 0)) (Some at.image_version)) w step u reports) spelled d3 in
    let done = subst (λ n. StepDoes (of_effect w (silent (by_message (Ok message) x.mote x.store n 0)) (Some at.image_version)) w step u reports) now d4 in
    let t = by_message (Ok message) x.mote x.store w.moment 0 in
    let new : Site = record { store = last t.trail; runs = Some (record { image_version = at.image_version; mote = t.mote }) } in
    let runs : Some (record { image_version = at.image_version; mote = t.mote }) ≡ done.0 = cc in
    let same : u ≡ made w b 0 new None = done.2 ∙ ap (λ r. made w b 0 (record { store = last t.trail; runs = r }) None) (sym runs) in
    subst (λ v. Walks b w v (record { store = last t.trail; mote = t.mote }) None 0) (sym same) (record {
      at = record { there = subst (λ n. b < n) (sym (made_beside w b 0 new None).count) at.there; image_version = at.image_version; site_is = made_site w b 0 new None at.there };
      beside = made_beside w b 0 new None;
      frame = refl;
      moment = refl;
    })
  where
    here : Site
    here = record { store = x.store; runs = Some (record { image_version = at.image_version; mote = x.mote }) }

    hear_last_by : Site → Option Sent → Does
    hear_last_by s None = Refuses cause.Frame
    hear_last_by s (Some f) = hear_by w s.store s.runs (w.moment + 0) 0 f.bytes

-- ---- two motes

pub at_beside : (m b : ℕ) (w u : World) (x : Spot) → b ≢ m → Beside m w u → At w b x → At u b x
at_beside m b w u x other beside at =
    record { there = subst (λ n. b < n) (sym beside.count) at.there; image_version = at.image_version; site_is = beside.others b other ∙ at.site_is }

pub linked_beside : (a b : ℕ) (w u : World) → u.links ≡ w.links → linked w a b ≡ true → linked u a b ≡ true
linked_beside a b w u e l = ap (λ ls. list_any (λ (k : ℕ × ℕ). (eqb k.0 a && eqb k.1 b) || (eqb k.0 b && eqb k.1 a)) ls) e ∙ l

-- nothing but motes a and b changed
pub record Between (a b : ℕ) (w u : World) : Type 0 where
  pub links : u.links ≡ w.links
  pub others : (j : ℕ) → j ≢ a → j ≢ b → site u j ≡ site w j

pub between_none : (a b : ℕ) (w : World) → Between a b w w
between_none a b w = record { links = refl; others = λ j h l. refl }

pub between_first : (a b : ℕ) (w u v : World) → Beside a w u → Between a b u v → Between a b w v
between_first a b w u v x y = record { links = y.links ∙ x.links; others = λ j h l. y.others j h l ∙ x.others j h }

pub between_second : (a b : ℕ) (w u v : World) → Beside b w u → Between a b u v → Between a b w v
between_second a b w u v x y = record { links = y.links ∙ x.links; others = λ j h l. y.others j h l ∙ x.others j l }

between_then : (a b : ℕ) (w u v : World) → Between a b w u → Between a b u v → Between a b w v
between_then a b w u v x y = record { links = y.links ∙ x.links; others = λ j h l. y.others j h l ∙ x.others j h l }

pub frame_said : (a : ℕ) (m : Message) → Some (record { by = a; bytes = frame_of m }) ≡ frame_told a (Some m)
unfolding frame_told
frame_said a m = refl

-- two motes are both wide, or both narrow
abbrev pub Alike : World → (a b : ℕ) → Type 0
Alike w a b = wide_at w a ≡ wide_at w b

pub alike_on : (a b : ℕ) (w u : World) → Grows w u → Alike w a b → Alike u a b
alike_on a b w u g alike = wide_on w u a g ∙ alike ∙ sym (wide_on w u b g)

-- what one says, the other reads
pub hears_same : (w : World) (a b : ℕ) (x : Spot) (message : Message) → WorldAgrees w → At w b x → Alike w a b → Spelled (wide_at w a) message → Spelled x.mote.wide message
hears_same w a b x message good at alike said = subst (λ wide. Spelled wide message) (alike ∙ sym (mote_wide w b x good at)) said

-- for each message, a tick at a that sends it, and b hears it
pub record Paired (ms : List Message) (a b : ℕ) (w v : World) (xa xb : Spot) : Type 0 where
  pub at_a : At v a (after_ticks (length ms) xa w.moment)
  pub at_b : At v b (hears_all ms xb w.moment)
  pub between : Between a b w v

pub pairs_walk : WalkLaws → (ms : List Message) (w v : World) (a b : ℕ) (xa xb : Spot) → WorldAgrees w → At w a xa → At w b xb → a ≢ b → linked w a b ≡ true → Alike w a b → Follows w (times (length ms) (paced a ∷ passed a b ∷ [])) v
    → SendsEach ms xa w.moment → Paired ms a b w v xa xb
unfolding Follows times after_ticks hears_all SendsEach
pairs_walk laws [] w v a b xa xb good at_a at_b other link alike f sends = subst (λ u. Paired [] a b w u xa xb) f (record { at_a = at_a; at_b = at_b; between = between_none a b w })
pairs_walk laws (m ∷ ms) w v a b xa xb good at_a at_b other link alike f sends =
    let w1 = f.0 in
    let one = tick_walks w w1 a xa f.1 at_a f.2 in
    let rest1 = f.3 in
    let w2 = rest1.0 in
    let link1 = linked_beside a b w w1 one.beside.links link in
    let said : last_frame w1 a ≡ frame_told a (Some m) = one.frame ∙ ap (λ o. newer_frame a o (last_frame w a)) sends.0 ∙ frame_said a m in
    let g1 = laws.free w w1 (paced a) f.1 good refl f.2 in
    let alike1 = alike_on a b w w1 g1 alike in
    let b1 = at_beside a b w w1 xb (λ e. other (sym e)) one.beside at_b in
    let spelled = hears_same w1 a b xb m g1.good b1 alike1 (subst (λ wide. Spelled wide m) (sym (wide_on w w1 a g1)) (subst (λ o. IfSome o (Spelled (wide_at w a))) sends.0 (said_at laws w a xa good at_a))) in
    let two = hear_walks w1 w2 a b xb m rest1.1 b1 link1 said spelled rest1.2 in
    let a2 = at_beside b a w1 w2 (ticked xa (w.moment + pace)) other two.beside one.at in
    let moment : w2.moment ≡ w.moment + pace = two.moment ∙ ap (λ n. n + 0) one.moment ∙ omega arith in
    let xb2 : At w2 b (hears xb (w.moment + pace) m) = subst (λ t. At w2 b (hears xb t m)) one.moment two.at in
    let g2 = laws.free w1 w2 (passed a b) rest1.1 g1.good refl rest1.2 in
    let more = pairs_walk laws ms w2 v a b (ticked xa (w.moment + pace)) (hears xb (w.moment + pace) m) g2.good a2 xb2 other (linked_beside a b w1 w2 two.beside.links link1) (alike_on a b w1 w2 g2 alike1) rest1.3
    (subst (λ t. SendsEach ms (ticked xa (w.moment + pace)) t) (sym moment) sends.1) in
    record {
      at_a = subst (λ t. At v a (after_ticks (length ms) (ticked xa (w.moment + pace)) t)) moment more.at_a;
      at_b = subst (λ t. At v b (hears_all ms (hears xb (w.moment + pace) m) t)) moment more.at_b;
      between = between_first a b w w1 v one.beside (between_second a b w1 w2 v two.beside more.between);
    }
