-- How a rehearsal begins: its world over chips that were formatted, and its first lines.
use Rattle.std.proofs.Common.{◌≡◌, ℕ, zero, suc, ◌+◌, ◌<◌, ◌≤◌, ⊎_elim, None, List, [], ◌∷◌, ◌++◌, length, map, replicate, take, get_or, append-nil, append_assoc, refl, ap, sym, subst, ◌∙◌, arith}
use Rattle.std.specs.Prelude.{Some, slice_get, slice_index_or, codes}
use Rattle.std.proofs.lemmas.List.{length-map, length-replicate, get_or-replicate, map-append, take_more, take_all}
use Rattle.std.proofs.lemmas.Grind.{flat_map-append}
use Rattle.dg_nor.specs.Device.{Device}
use Rattle.dg_netcfg.specs.Readings.{IsAllowed}
use Rattle.dg_netcfg.specs.declared.profile.NetProfile.{NetProfile}
use Rattle.dg_object.specs.Object.{Row}
use Rattle.dg_script.specs.Places.{none_narrow}
use Rattle.dg_script.specs.Items.{Declares}
use Rattle.dg_script.specs.Ranges.{AreTwo}
use Rattle.dg_script.specs.Sizes.{most_motes}
use Rattle.dg_script.specs.declared.line.Line.{Line}
use Rattle.dg_script.specs.declared.line.Line.TheVariants.{Motes, Golden, Link, Image}
use Rattle.dg_volume.specs.Store.{Store}
use Rattle.dg_volume.specs.Stands.{Stands}
use Rattle.dg_volume.specs.Table.{row_at}
use Rattle.dg_rules.specs.Runs.{Plays}
use Rattle.dg_rules.specs.Steps.{declared_as}
use Rattle.dg_rules.proofs.TableLemmas.{row_at-cons, not_none}
use Rattle.dg_rules.specs.World.{World, Site, first_world, off_site, no_site}
use Rattle.dg_world.specs.Boards.{WorldStands}
use Rattle.dg_world.specs.Worlds.{IsWorld}
use Rattle.dg_world.specs.declared.world.World.{World as KeptWorld}
use Rattle.dg_rehearse.specs.Rehearsed.{IsStaged, OnlyDeclared, AreFormatted, base_row, base_chip, planned_row, rehearsed_world, declared_world, opening_lines, written, written_lines, rehearsed_lines}
use Rattle.dg_rehearse.specs.declared.plan.Plan.{Plan}

-- ---- the first world

pub first_count : (n : NetProfile) (p : Plan) → length (declared_world (rehearsed_world n) p).sites ≡ n.motes
first_count n p = length-map (replicate n.motes base_chip) off_site ∙ length-replicate n.motes base_chip

site_first : (n m : ℕ) → m < n → slice_index_or (map off_site (replicate n base_chip)) m no_site ≡ off_site base_chip
site_first zero m h = absurd (omega arith)
site_first (suc n) zero h = refl
site_first (suc n) (suc m) h = site_first n m (omega arith)

first_stands : (n : NetProfile) (p : Plan) (old new : List Device) → AreFormatted n.motes old new → WorldStands (declared_world (rehearsed_world n) p) old new
first_stands n p old new f =
    let many = first_count n p in
    record {
      all = record { count = f.boards.count; endures = f.boards.endures };
      calm = f.calm;
      stands = λ m d within at.
          let low : m < n.motes = omega (arith, many, within) in
          subst (λ (x : Site). Stands d.image x.store) (sym (site_first n.motes m low)) (f.stands m d low at);
      came = λ m d within at. f.awake m d (omega (arith, many, within)) at;
      others = λ m past. f.boards.others m (omega (arith, many, past));
    }

-- the table has no row but golden
only_golden : (n : NetProfile) (p : Plan) → OnlyDeclared (declared_world (rehearsed_world n) p)
only_golden n p image version row low e =
    ⊎_elim (λ here. let zero_is = here.1 in absurd (omega (arith, low, zero_is))) (λ there. absurd (not_none None row there refl)) (row_at-cons [] base_row row image version e)

-- a rehearsal of no steps
pub staged_first : (n : NetProfile) (p : Plan) (kept : KeptWorld) (old new : List Device) (script : List ℕ) → AreFormatted n.motes old new
    → IsWorld kept new (declared_world (rehearsed_world n) p) → script ≡ written_lines (opening_lines n p) → IsStaged n p old (record { kept = kept; boards = new; script = script; moment = 0 })
unfolding Plays
staged_first n p kept old new script formatted is wrote =
    record {
      steps = [];
      world = declared_world (rehearsed_world n) p;
      run = record {
        fits = tt;
        played = record { item = Declares (planned_row p); before = rehearsed_world n; after = declared_world (rehearsed_world n) p; reports = [] } ∷ [];
        items = refl;
        plays = (refl, record { world = refl; told = refl }, refl);
      };
      along = (tt, tt);
      count = first_count n p;
      links = refl;
      declared = refl;
      table = only_golden n p;
      moment = refl;
      is = is;
      stands = first_stands n p old new formatted;
      spelled = wrote ∙ ap written_lines (sym (append-nil (opening_lines n p)));
    }

pub nothing_written : (n : NetProfile) (p : Plan) (script : List ℕ) → script ≡ written_lines (opening_lines n p) → script ≡ written_lines (rehearsed_lines n p [])
nothing_written n p script wrote = wrote ∙ ap written_lines (sym (append-nil (opening_lines n p)))

-- one row is declared
pub declared_first : (w : World) (p : Plan) → w.declared ≡ [] → declared_as (row_at w.declared p.image p.version) w (planned_row p) ≡ declared_world w p
declared_first w p e =
    ap (λ (rows : List Row). declared_as (row_at rows p.image p.version) w (planned_row p)) e ∙ ap (λ (rows : List Row). record w { declared = rows ++ planned_row p ∷ [] }) e

-- ---- links are made one after the other

abbrev pub with_links : NetProfile → List (ℕ × ℕ) → World
with_links n links = first_world (base_row ∷ []) links none_narrow (replicate n.motes base_chip)

pub linked_first : (n : NetProfile) (v : KeptWorld) → ((boards : List Device) (stores : List Store) (table : List Row) → length stores ≡ n.motes → n.motes ≤ length boards
    → ((m : ℕ) (d : Device) → m < n.motes → slice_get boards m ≡ Some d → Stands d.image (slice_index_or stores m no_site.store)) → IsWorld v boards (first_world table [] none_narrow stores))
    → (boards : List Device) → n.motes ≤ length boards → ((m : ℕ) (d : Device) → m < n.motes → slice_get boards m ≡ Some d → Stands d.image base_chip) → IsWorld v boards (with_links n [])
linked_first n v begins boards enough stands =
    begins boards (replicate n.motes base_chip) (base_row ∷ []) (length-replicate n.motes base_chip) enough
    (λ m d within is. subst (λ (x : Store). Stands d.image x) (sym (get_or-replicate n.motes m base_chip no_site.store within)) (stands m d within is))

pub links_more : (n : NetProfile) (i : ℕ) (v : KeptWorld) (boards : List Device) (links : List (ℕ × ℕ)) (l : ℕ × ℕ) → take (i + 1) links ≡ take i links ++ l ∷ []
    → IsWorld v boards (with_links n (take i links ++ l ∷ [])) → IsWorld v boards (with_links n (take (i + 1) links))
links_more n i v boards links l e is = subst (λ (ls : List (ℕ × ℕ)). IsWorld v boards (with_links n ls)) (sym e) is

pub links_all : (n : NetProfile) (i : ℕ) (v : KeptWorld) (boards : List Device) (links : List (ℕ × ℕ)) → length links ≤ i
    → IsWorld v boards (with_links n (take i links)) → IsWorld v boards (with_links n links)
links_all n i v boards links low is = subst (λ (ls : List (ℕ × ℕ)). IsWorld v boards (with_links n ls)) (take_all i links low) is

-- ---- the first lines

abbrev pub link_line : ℕ × ℕ → Line
link_line l = Link l.0 l.1

abbrev pub golden_said : Line
golden_said = Golden (codes "base") 0 (codes "A")

abbrev pub image_said : Plan → Line
image_said p = Image p.image p.version p.name p.content

-- the lines up to those of the first k links
abbrev pub opening_so_far : ℕ → List (ℕ × ℕ) → ℕ → List ℕ
opening_so_far motes links k = written_lines (Motes motes ∷ golden_said ∷ map link_line (take k links))

pub opening_begins : (motes : ℕ) (links : List (ℕ × ℕ)) (golden : Line) (a b c : List ℕ) → golden ≡ golden_said → b ≡ a ++ written (Motes motes) → c ≡ b ++ written golden → c ≡ a ++ opening_so_far motes links 0
opening_begins motes links golden a b c is first second =
    second ∙ ap (λ g. b ++ written g) is ∙ ap (λ l. l ++ written golden_said) first ∙ append_assoc a (written (Motes motes)) (written golden_said) ∙ ap (λ l. a ++ (written (Motes motes) ++ l)) (sym (append-nil (written golden_said)))

rest_more : (links : List (ℕ × ℕ)) (k : ℕ) (d : ℕ × ℕ) → k < length links → written_lines (map link_line (take (k + 1) links)) ≡ written_lines (map link_line (take k links)) ++ written (link_line (get_or links k d))
rest_more links k d h =
    ap (λ l. written_lines (map link_line l)) (take_more links k d h) ∙ ap written_lines (map-append link_line (take k links) (get_or links k d ∷ [])) ∙ flat_map-append written (map link_line (take k links)) (link_line (get_or links k d) ∷ [])
    ∙ ap (λ l. written_lines (map link_line (take k links)) ++ l) (append-nil (written (link_line (get_or links k d))))

pub opening_more : (motes : ℕ) (links : List (ℕ × ℕ)) (k : ℕ) (d : ℕ × ℕ) (a b c : List ℕ) → k < length links → b ≡ a ++ opening_so_far motes links k → c ≡ b ++ written (link_line (get_or links k d)) → c ≡ a ++ opening_so_far motes links (k + 1)
opening_more motes links k d a b c h first second =
    let m = written (Motes motes) in
    let o = written golden_said in
    let r = written_lines (map link_line (take k links)) in
    let f = written (link_line (get_or links k d)) in
    second
    ∙ ap (λ l. l ++ f) first
    ∙ append_assoc a (m ++ (o ++ r)) f
    ∙ ap (λ l. a ++ l) (append_assoc m (o ++ r) f ∙ ap (λ l. m ++ l) (append_assoc o r f ∙ ap (λ l. o ++ l) (sym (rest_more links k d h))))

pub opening_ends : (n : NetProfile) (p : Plan) (items : List (ℕ × ℕ)) (k : ℕ) (image : Line) (a b c : List ℕ) → items ≡ n.links → length items ≤ k → image ≡ image_said p → b ≡ a ++ opening_so_far n.motes items k → c ≡ b ++ written image
    → c ≡ a ++ written_lines (opening_lines n p)
opening_ends n p items k image a b c same h is first second =
    let ls : List Line = Motes n.motes ∷ golden_said ∷ map link_line n.links in
    second ∙ ap (λ l. b ++ written l) is ∙ ap (λ l. l ++ written (image_said p)) (first ∙ ap (λ l. a ++ written_lines (Motes n.motes ∷ golden_said ∷ map link_line l)) (take_all k items h ∙ same))
    ∙ append_assoc a (written_lines ls) (written (image_said p)) ∙ ap (λ l. a ++ (written_lines ls ++ l)) (sym (append-nil (written (image_said p))))
    ∙ ap (λ l. a ++ l) (sym (flat_map-append written ls (image_said p ∷ [])))

pub enough_formatted : {A : Type 0} (device : A → Device) (motes : ℕ) (boards : List A) (new : List Device) → motes ≤ length boards → AreFormatted motes (map device boards) new → motes ≤ length new
enough_formatted device motes boards new enough f =
    let e = f.boards.count in
    let k = length-map boards device in
    omega (arith, e, k, enough)

link_there : (n : NetProfile) (k : ℕ) (d : ℕ × ℕ) → IsAllowed n → k < length n.links → AreTwo most_motes (get_or n.links k d).0 (get_or n.links k d).1
link_there n k d allowed less =
    let j = allowed.links k d less in
    let few = allowed.motes.1 in
    record { first = omega (arith, j.0, few); second = omega (arith, j.1, few); two = j.2 }

pub link_fits : (n : NetProfile) (items : List (ℕ × ℕ)) (k : ℕ) (d : ℕ × ℕ) → items ≡ n.links → IsAllowed n → k < length items → AreTwo most_motes (get_or items k d).0 (get_or items k d).1
link_fits n items k d same allowed less =
    subst (λ ls. AreTwo most_motes (get_or ls k d).0 (get_or ls k d).1) (sym same) (link_there n k d allowed (subst (λ ls. k < length ls) same less))
