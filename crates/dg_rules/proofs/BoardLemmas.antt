-- What is played over chips as they are begins in a world that agrees with its table.
use Rattle.std.proofs.Common.{◌≡◌, ℕ, ◌<◌, ◌≤◌, ◌^◌, Bool, true, false, cond, List, [], length, refl, sym, ap, subst, ◌⊎◌, inl, inr, arith, IsTrue}
use Rattle.std.specs.Prelude.{◌==◌, ◌&&◌, nat_le, nat_lt}
use Rattle.std.specs.List.{AllByRecursion}
use Rattle.std.proofs.Math.ListN.{get_or-map}
use Rattle.std.proofs.lemmas.Bool.Decides.{nat_tests}
use Rattle.std.proofs.lemmas.List.{length-map}
use Rattle.dg_object.specs.Object.{Row}
use Rattle.dg_control.specs.Ranges.{order_fits}
use Rattle.dg_control.specs.declared.snapshot.Order.{Order}
use Rattle.dg_volume.specs.Sizes.{images}
use Rattle.dg_volume.specs.Store.{Store, fresh}
use Rattle.dg_mote.specs.Speaking.{OrderFits}
use Rattle.dg_rules.specs.Sizes.{most_motes}
use Rattle.dg_rules.specs.World.{World, Site, site, is_wide_mote, off_site, first_world}
use Rattle.dg_rules.specs.Premises.{LinkFits, SiteIsWell, WorldAgrees, AllOff, PlayedInRange, IsTrueThen}
use Rattle.dg_rules.specs.Begins.{PlaysFrom, store_of, StoresAgree, AreShaped, PlaysBoards}
use Rattle.dg_rules.specs.Runs.{Played}
use Rattle.dg_script.specs.Ranges.{EventInRange}
use Rattle.dg_base.specs.declared.events.Event.{Event}
use Rattle.std.proofs.lemmas.Bool.{cases_Bool}

-- ---- an order in its ranges fits into a frame

record Named (n i v : ℕ) : Type 0 where
  number : 1 ≤ n
  number_fits : n < 2 ^ 32
  image : i < images
  version : 1 ≤ v
  version_fits : v < 2 ^ 32

record Empty (n i v : ℕ) : Type 0 where
  number : n ≡ 0
  image : i ≡ 0
  version : v ≡ 0

abbrev Named? : (n i v : ℕ) → Bool
Named? n i v = nat_lt n (2 ^ 32) && nat_lt i images && nat_le 1 v && nat_lt v (2 ^ 32)

empty : (n i v : ℕ) → n == 0 ≡ true → ((i == 0) && (v == 0)) ≡ true → Empty n i v
empty n i v a b = record { number = grind (arith, nat_tests); image = grind (arith, nat_tests); version = grind (arith, nat_tests) }

named : (n i v : ℕ) → n == 0 ≡ false → Named? n i v ≡ true → Named n i v
named n i v a b = record {
  number = grind (arith, nat_tests);
  number_fits = grind (arith, nat_tests);
  image = grind (arith, nat_tests);
  version = grind (arith, nat_tests);
  version_fits = grind (arith, nat_tests);
}

order_parts : (o : Order) → IsTrue (order_fits o) → Empty o.number o.image o.version ⊎ Named o.number o.image o.version
order_parts o fits =
    let P : Bool → Type 0 = λ b. cond b ((o.image == 0) && (o.version == 0)) (Named? o.number o.image o.version) ≡ true in
    elim (cases_Bool (o.number == 0)) [
      | inl none ↦ inl (empty o.number o.image o.version none (subst P none fits))
      | inr some ↦ inr (named o.number o.image o.version some (subst P some fits))
    ]

same_order : (o p : Order) → o.number ≡ p.number → o.image ≡ p.image → o.version ≡ p.version → o ≡ p
same_order o p a b c = rw (a, b, c) refl

order_told : (o : Order) → IsTrue (order_fits o) → OrderFits o
order_told o fits =
    elim (order_parts o fits) [
      | inl e ↦ record {
        in_range = inl (same_order o (record { number = 0; image = 0; version = 0 }) e.number e.image e.version);
        number = let zero_is = e.number in omega (arith, zero_is);
        version = let zero_is = e.version in omega (arith, zero_is);
      }
      | inr n ↦ record {
        in_range = inr (record { number = n.number; image = let low = n.image in omega (arith, low); version = n.version });
        number = n.number_fits;
        version = n.version_fits;
      }
    ]

-- ---- the first world

module _ (table : List Row) (stores : List Store) (links : List (ℕ × ℕ)) (narrow : List Bool) where
  abbrev pub First : World
  First = first_world table links narrow stores

  first_count : length First.sites ≡ length stores
  first_count = length-map stores off_site

  first_site : (m : ℕ) → site First m ≡ off_site (store_of stores m)
  first_site m = get_or-map off_site stores m (fresh [] [] 0)

  first_well : StoresAgree table stores → AreShaped stores → (m : ℕ) → m < length stores → SiteIsWell table m (is_wide_mote narrow m) 0 (off_site (store_of stores m))
  first_well agree shaped m here = record {
    store = record { count = (shaped m here).count; agrees = agree.each m here };
    order = order_told (store_of stores m).order (shaped m here).order;
    runs = tt;
  }

  first_agrees : StoresAgree table stores → AreShaped stores → length stores ≤ most_motes → AllByRecursion (LinkFits (length stores)) links → WorldAgrees First
  first_agrees agree shaped few links_fit = record {
    few = subst (λ (n : ℕ). n ≤ most_motes) (sym first_count) few;
    table = agree.is_table;
    rows = tt;
    links = subst (λ (n : ℕ). AllByRecursion (LinkFits n) links) (sym first_count) links_fit;
    sites = λ m here. subst (SiteIsWell table m (is_wide_mote narrow m) 0) (sym (first_site m)) (first_well agree shaped m (subst (λ (n : ℕ). m < n) first_count here));
    sent = tt;
  }

  first_off : AllOff First
  first_off m = ap (λ (x : Site). x.runs) (first_site m)

  pub boards_from : (played : List Played) (v : World) → PlaysBoards table stores links narrow played v → StoresAgree table stores → AllByRecursion IsTrueThen played → PlaysFrom First played v
  boards_from played v script agree are_true = record {
    agrees = first_agrees agree script.shaped script.few script.links_fit;
    off = first_off;
    plays = script.plays;
    ranges = subst (λ (n : ℕ). AllByRecursion (PlayedInRange n) played) (sym first_count) script.ranges;
    are_true = are_true;
  }

  pub boards_fit : (e : Event) → EventInRange (length stores) e → EventInRange (length First.sites) e
  boards_fit e fits = subst (λ (n : ℕ). EventInRange n e) (sym first_count) fits
