-- Where a service begins.
use Rattle.std.proofs.Common.{◌≡◌, ◌⊎◌, ℕ, zero, suc, ◌^◌, ◌<◌, ◌≤◌, List, [], ◌∷◌, length, map, refl, ap, sym, ◌∙◌, subst, inl, arith}
use Rattle.std.specs.Prelude.{slice_get, slice_index_or, Option, Some, IfSome}
use Rattle.std.proofs.lemmas.List.{length-map}
use Rattle.rand_pcg.specs.Lcg.{Lcg}
use Rattle.dg_base.specs.Clock.{Answers}
use Rattle.dg_link.specs.Inboxes.{Inboxes}
use Rattle.dg_nor.specs.Device.{Device}
use Rattle.dg_object.specs.Object.{Row}
use Rattle.dg_volume.specs.Store.{Store}
use Rattle.dg_volume.specs.Stands.{Stands, IsVolume, IsNoVolume}
use Rattle.dg_mote.specs.Timely.{Timely}
use Rattle.dg_script.specs.Places.{none_narrow}
use Rattle.dg_rules.specs.World.{Site, first_world, off_site, no_site}
use Rattle.dg_seed.specs.Draws.{generator_of}
use Rattle.dg_serve.specs.Services.{Part, Begins, Moment}
use Rattle.dg_serve.specs.inner.Stretches.{beginning}
use Rattle.dg_serve.specs.Endings.{StoresOf}
use Rattle.dg_serve.specs.Standings.{Standing, StandsFor, StandsForSome, StandsReady, IsUnderWay, ServedParts}
use Rattle.dg_serve.proofs.EventLemmas.{same_of}
use Rattle.dg_serve.proofs.LoopLemmas.{loop_moved}

-- all sites of a world at its beginning are off
site_off : (stores : List Store) (m : ℕ) → slice_index_or (map off_site stores) m no_site ≡ off_site (slice_index_or stores m no_site.store)
site_off [] m = refl
site_off (s ∷ stores) zero = refl
site_off (s ∷ stores) (suc m) = site_off stores m

-- the moment of a service that begins
abbrev pub first_moment : List Row → List (ℕ × ℕ) → List Store → (reading : ℕ) → Option Answers → Lcg → Option Inboxes → Moment
first_moment table links stores reading clock draws inboxes = record { world = first_world table links none_narrow stores; reading = reading; clock = clock; draws = draws; inboxes = inboxes }

pub stands_first : (motes : ℕ) (links : List (ℕ × ℕ)) (table : List Row) (stores : List Store) (reading : ℕ) (clock : Option Answers) (draws : Lcg) (inboxes : Option Inboxes) (p : Standing) → StoresOf motes p.boards stores → p.service.timeline.moment ≡ 0 → p.service.timeline.reading ≡ reading → generator_of p.service.timeline.draws ≡ draws → p.clock ≡ clock → p.inboxes ≡ inboxes
    → StandsFor motes 0 links 0 p.boards (first_moment table links stores reading clock draws inboxes) p
stands_first motes links table stores reading clock draws inboxes p of moment read drew told waits = record {
  moment = omega (arith, moment);
  reading = read;
  draws = drew;
  clock = told;
  inboxes = waits;
  linked = refl;
  wide = refl;
  sites = length-map stores off_site ∙ of.count;
  count = refl;
  timely = λ m known. subst (λ (x : Site). IfSome x.runs (λ r. Timely r.mote 0)) (sym (site_off stores m)) tt;
  on = λ m a b within was now. absurd (omega (arith, within));
  off = λ m a b out within was now.
      let P : Site → Type 0 = λ x. Stands a.image x.store ⊎ IsNoVolume a.image in (
        ap (λ (d : Device). d.image) (same_of (slice_get p.boards m) b a now was),
        ap (λ (x : Site). x.runs) (site_off stores m),
        subst P (sym (site_off stores m)) (of.stands m a within was),
      );
}

-- boards that are volumes stand for stores
shifted : (n : ℕ) (d : Device) (ds : List Device) → ((m : ℕ) (a : Device) → m < suc n → slice_get (d ∷ ds) m ≡ Some a → IsVolume a.image) → (m : ℕ) (a : Device) → m < n → slice_get ds m ≡ Some a → IsVolume a.image
shifted n d ds volumes m a h was = volumes (suc m) a (omega (arith, h)) was

with_first : (n : ℕ) (d : Device) (ds : List Device) (s : Store) (stores : List Store) → Stands d.image s → StoresOf n ds stores → StoresOf (suc n) (d ∷ ds) (s ∷ stores)
with_first n d ds s stores stands of = record { count = let e = of.count in omega (arith, e); stands = there }
  where
    there : (m : ℕ) (a : Device) → m < suc n → slice_get (d ∷ ds) m ≡ Some a → Stands a.image (slice_index_or (s ∷ stores) m no_site.store) ⊎ IsNoVolume a.image
    there zero a h was = inl (subst (λ (x : Device). Stands x.image s) (same_of (Some d) d a refl was) stands)
    there (suc m) a h was = of.stands m a (omega (arith, h)) was

no_stores : (boards : List Device) → StoresOf 0 boards []
no_stores boards = record { count = refl; stands = λ m a h was. absurd (omega (arith, h)) }

pub stores_of : (n : ℕ) (boards : List Device) → n ≤ length boards → ((m : ℕ) (a : Device) → m < n → slice_get boards m ≡ Some a → IsVolume a.image) → (stores : List Store) × StoresOf n boards stores
stores_of zero boards wide volumes = ([], no_stores boards)
stores_of (suc n) [] wide volumes = absurd (omega arith)
stores_of (suc n) (d ∷ ds) wide volumes =
    let x = stores_of n ds (omega arith) (shifted n d ds volumes) in
    let v = volumes zero d (omega arith) refl in
    (v.0 ∷ x.0, with_first n d ds v.0 x.0 v.1 x.1)

-- once each mote began, the code stands for some moment
pub some_begun : (motes : ℕ) (links : List (ℕ × ℕ)) (parts : List Part) (p q : Standing) → StandsReady motes 0 p → p.service.timeline.moment ≡ 0 → ServedParts motes 0 motes links parts p q → StandsForSome motes motes links q
some_begun motes links parts p q ready moment went =
    let x = stores_of motes p.boards ready.boards (λ m a h was. went.volumes m a (omega arith) h was) in
    let st = stands_first motes links [] x.0 p.service.timeline.reading p.clock (generator_of p.service.timeline.draws) p.inboxes p x.1 moment refl refl refl refl in
    let y = went.run p.boards (first_moment [] links x.0 p.service.timeline.reading p.clock (generator_of p.service.timeline.draws) p.inboxes) st in
    (p.boards, y.0, y.2)

-- and the service is under way
pub begun_under_way : (motes : ℕ) (links : List (ℕ × ℕ)) (p q : Standing) → motes ≤ 16 → StandsReady motes 0 p → p.service.timeline.moment ≡ 0 → ServedParts motes 0 motes links (beginning motes) p q → IsUnderWay motes links (2 ^ 40) q
begun_under_way motes links p q most ready moment went =
    let moved = loop_moved motes 0 motes links motes 1 (λ mote. Begins mote ∷ []) p q (λ k. omega arith) went in
    record { ready = went.ready; early = omega (arith, moved, most, moment); some = some_begun motes links (beginning motes) p q ready moment went }
