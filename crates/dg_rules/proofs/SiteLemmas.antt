-- The motes of a world, one of which changes.
use Rattle.std.proofs.Common.{◌≡◌, ℕ, ◌<◌, length, sym, ap, subst, ◌∙◌, arith, ⊎_elim}
use Rattle.std.proofs.lemmas.Bool.{cases_eq}
use Rattle.std.proofs.Math.ListN.{get_or-map}
use Rattle.std.proofs.lemmas.List.{get_or-set_same, get_or-set_other, length-set, length-map}
use Rattle.dg_rules.specs.World.{World, Site, no_site, site, with_site}
use Rattle.dg_rules.specs.Small.{small, small_mote, small_mote_at}

pub site_there : (w : World) (m : ℕ) (x : Site) → m < length w.sites → site (with_site w m x) m ≡ x
site_there w m x within = get_or-set_same w.sites m x no_site within

pub site_other : (w : World) (m j : ℕ) (x : Site) → (j ≡ m → ⊥) → site (with_site w m x) j ≡ site w j
site_other w m j x other = get_or-set_other w.sites m j x no_site other

pub site_count : (w : World) (m : ℕ) (x : Site) → length (with_site w m x).sites ≡ length w.sites
site_count w m x = length-set w.sites m x

-- what holds of the new site and of all that stay holds of each
pub each_site : (P : ℕ → Site → Type 0) (w : World) (m : ℕ) (x : Site) → m < length w.sites → P m x → ((j : ℕ) → j < length w.sites → (j ≡ m → ⊥) → P j (site w j)) → (j : ℕ) → j < length (with_site w m x).sites → P j (site (with_site w m x) j)
each_site P w m x within new old j low =
    ⊎_elim
    (λ e. subst (λ n. P n (site (with_site w m x) n)) (sym e) (subst (P m) (sym (site_there w m x within)) new))
    (λ other. subst (P j) (sym (site_other w m j x other)) (old j (omega (arith, low, site_count w m x)) other))
    (cases_eq j m)

-- ---- the small state

pub small_at : (w : World) (m : ℕ) → small_mote_at (small w) m ≡ small_mote (site w m)
small_at w m = get_or-map small_mote w.sites m no_site

pub small_there : (w : World) (m : ℕ) (x : Site) → m < length w.sites → small_mote_at (small (with_site w m x)) m ≡ small_mote x
small_there w m x within = small_at (with_site w m x) m ∙ ap small_mote (site_there w m x within)

pub small_other : (w : World) (m j : ℕ) (x : Site) → (j ≡ m → ⊥) → small_mote_at (small (with_site w m x)) j ≡ small_mote_at (small w) j
small_other w m j x other = small_at (with_site w m x) j ∙ ap small_mote (site_other w m j x other) ∙ sym (small_at w j)

pub small_count : (w : World) (m : ℕ) (x : Site) → length (small (with_site w m x)).motes ≡ length (small w).motes
small_count w m x = length-map (with_site w m x).sites small_mote ∙ site_count w m x ∙ sym (length-map w.sites small_mote)
