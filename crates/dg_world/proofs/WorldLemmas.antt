-- How the code's world stands for a world by the rules: where it begins, and where a board and a mote changed.
use Rattle.std.proofs.Common.{◌≡◌, ℕ, ◌<◌, ◌≤◌, Bool, false, List, [], length, ap, sym, ◌∙◌, subst, arith}
use Rattle.std.specs.Prelude.{slice_get, slice_index_or, replicate, Option, Some, None, IfSome}
use Rattle.std.proofs.Math.Decide.{dec_lt}
use Rattle.std.proofs.Math.ListN.{get_or-eq_default}
use Rattle.std.proofs.lemmas.List.{length-map, length-replicate, get_or-replicate, get_or-map}
use Rattle.std.proofs.lemmas.Bool.{both_ways}
use Rattle.dg_nor.specs.Device.{Device}
use Rattle.dg_world.specs.Known.{known_of}
use Rattle.dg_object.specs.Object.{Row}
use Rattle.dg_volume.specs.Store.{Store}
use Rattle.dg_volume.specs.Stands.{Stands}
use Rattle.dg_rules.specs.Sizes.{most_motes}
use Rattle.dg_mote.specs.Timely.{Timely}
use Rattle.dg_rules.specs.World.{World as RuleWorld, Site, site, first_world, off_site, no_site}
use Rattle.dg_shared.specs.Airs.{Carries}
use Rattle.dg_shared.specs.Images.{NothingDeclared}
use Rattle.dg_shared.specs.Neighbours.{KnowsLinks}
use Rattle.dg_shared.specs.Shareds.{IsShared}
use Rattle.dg_world.specs.Worlds.{SiteStands, IsWorld}
use Rattle.dg_shared.specs.declared.shared.Shared.{Shared}
use Rattle.dg_world.specs.declared.world.World.{World}
use Rattle.dg_node.specs.declared.node.Node.{Node}
use Rattle.dg_shared.proofs.ImageLemmas.{declares_none}

first_site : (stores : List Store) (table : List Row) (links : List (ℕ × ℕ)) (narrow : List Bool) (m : ℕ) → m < length stores → site (first_world table links narrow stores) m ≡ off_site (slice_index_or stores m no_site.store)
first_site stores table links narrow m h = get_or-map off_site stores m no_site.store no_site h

stands_off : (d : Device) (v : Option Node) (x : Site) (s : Store) → v ≡ None → x ≡ off_site s → Stands d.image s → SiteStands d v x
stands_off d v x s off at stands =
    let P : Option Node → Type 0 = λ o. SiteStands d o x in
    subst P (sym off) (subst (λ (y : Site). SiteStands d None y) (sym at) (record { stands = stands; mote = tt }))

off_timely : (x : Site) (s : Store) (now : ℕ) → x ≡ off_site s → IfSome x.runs (λ r. Timely r.mote now)
off_timely x s now at = subst (λ (y : Site). IfSome y.runs (λ r. Timely r.mote now)) (sym at) tt

pub begins : (v : World) (boards : List Device) (stores : List Store) (table : List Row) (links : List (ℕ × ℕ)) (narrow : List Bool) (n : ℕ) → v.moment ≡ 0 → v.events ≡ 0 → NothingDeclared v.shared.images → KnowsLinks v.shared.links.neighbours links → narrow ≡ v.shared.narrow → Carries v.shared.air []
    → v.motes.items ≡ replicate n None → n ≤ most_motes → length stores ≡ n → n ≤ length boards → ((m : ℕ) (d : Device) → m < n → slice_get boards m ≡ Some d → Stands d.image (slice_index_or stores m no_site.store)) → ((m : ℕ) → known_of v m ≡ false)
    → IsWorld v boards (first_world table links narrow stores)
begins v boards stores table links narrow n start none nothing linked radios silent off few count enough stand unknown =
    let sites : length (first_world table links narrow stores).sites ≡ n = length-map stores off_site ∙ count in
    record {
      moment = start;
      events = none;
      shared = record { declared = declares_none v.shared.images nothing; links = linked; narrow = radios; sent = silent };
      motes = sites ∙ sym (ap length off ∙ length-replicate n None);
      few_motes = omega (arith, sites, few);
      boards_enough = omega (arith, sites, enough);
      few_events = omega arith;
      early = omega arith;
      timely = λ m known. off_timely (site (first_world table links narrow stores) m) (slice_index_or stores m no_site.store) 0 (first_site stores table links narrow m (omega (arith, sites, known, count)));
      sites = λ m d known here.
          let h : m < n = omega (arith, sites, known) in
          stands_off d (slice_index_or v.motes.items m None) (site (first_world table links narrow stores) m) (slice_index_or stores m no_site.store)
          (ap (λ (l : List (Option Node)). slice_index_or l m None) off ∙ get_or-replicate n m None None h)
          (first_site stores table links narrow m (omega (arith, h, count))) (stand m d h here);
      orderly = λ m d known here is. absurd (both_ways (known_of v m) (unknown m) is);
    }

-- what is shared may change where the motes and their boards do not
pub shares : (v : World) (s : Shared) (boards : List Device) (w : RuleWorld) (rows : List Row) (links : List (ℕ × ℕ)) → IsWorld v boards w → IsShared s (record w { declared = rows; links = links }) → IsWorld (record v { shared = s }) boards (record w { declared = rows; links = links })
shares v s boards w rows links is shared = record {
  moment = is.moment;
  events = is.events;
  shared = shared;
  motes = is.motes;
  few_motes = is.few_motes;
  boards_enough = is.boards_enough;
  few_events = is.few_events;
  early = is.early;
  timely = is.timely;
  sites = is.sites;
  orderly = is.orderly;
}

-- no board is known
pub none_known : (xs : List Bool) → xs ≡ replicate most_motes false → (m : ℕ) → slice_index_or xs m false ≡ false
none_known xs e m = ap (λ (ys : List Bool). slice_index_or ys m false) e ∙ by_case (dec_lt m most_motes)
  where
    by_case : Dec (m < most_motes) → slice_index_or (replicate most_motes false) m false ≡ false
    by_case (yes less) = get_or-replicate most_motes m false false less
    by_case (no more) = get_or-eq_default (replicate most_motes false) false (omega (arith, more, length-replicate most_motes false))
