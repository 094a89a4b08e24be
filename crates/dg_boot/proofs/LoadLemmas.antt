-- The pages of an image in program memory, and what is reported of them.
use Rattle.std.proofs.Common.{◌≡◌, ℕ, ◌<◌, List, [], length, get_or, sym, ap, subst, ◌∙◌, arith}
use Rattle.dg_words.specs.Lists.{tabulate}
use Rattle.dg_words.proofs.ListLemmas.{length-tabulate}
use Rattle.dg_base.specs.Crc.{crc_of}
use Rattle.dg_object.specs.Object.{content}
use Rattle.dg_object.specs.Descriptor.{Details, IsDescriptor}
use Rattle.dg_object.proofs.HeadLemmas.{one_head}
use Rattle.dg_slot.specs.Layout.{page_sector, program_sector}
use Rattle.dg_slot.specs.Pages.{page_in, program, slot_pages}
use Rattle.dg_slot.specs.Kept.{Held, KeepsImage}
use Rattle.dg_volume.specs.Store.{App}
use Rattle.dg_volume.specs.Stands.{HoldsApp}
use Rattle.dg_volume.specs.Start.{length_in}
use Rattle.dg_boot.specs.Loads.{Measures, IsWhole, app_from}
use Rattle.dg_boot.specs.declared.loaded.Loaded.{Loaded}
use Rattle.dg_boot.proofs.DescriptorLemmas.{length_in-descriptor, first_of, same_tables}

-- two descriptors of one page are equal
pub one_descriptor : (page : List ℕ) (d e : Details) → IsDescriptor page d → IsDescriptor page e → d ≡ e
one_descriptor page d e p q = one_head _ d e p.head q.head

-- a table of pages of which the first is a descriptor is measured by it
pub measured : (f : ℕ → List ℕ) (ps : List (List ℕ)) (d : Details) (told : Loaded) → IsDescriptor (f 0) d → ps ≡ tabulate d.pages f → told.pages ≡ d.pages → told.length ≡ d.length → told.crc ≡ crc_of (content d.length (tabulate d.pages f))
    → Measures ps told
measured f ps d told described same pages long crc =
    let some : 0 < d.pages = omega (arith, described.head.range.pages) in
    record {
      pages = pages ∙ sym (ap length same ∙ length-tabulate d.pages f);
      bytes = long ∙ sym (ap (λ (x : List (List ℕ)). length_in (get_or x 0 [])) same ∙ ap length_in (first_of f d.pages some) ∙ length_in-descriptor (f 0) d described);
      crc = crc ∙ ap (λ (x : List (List ℕ)). crc_of (content d.length x)) (sym same) ∙ ap (λ (n : ℕ). crc_of (content n ps)) (sym long);
    }

-- program memory that is Set to an image
pub record Stood (c : List ℕ) (app : App) (told : Loaded) : Type 0 where
  pub measures : Measures app.pages told
  pub memory : program c told.pages ≡ app.pages

pub app_measured : (c : List ℕ) (app : App) (d : Details) (told : Loaded) → HoldsApp c app → IsDescriptor (page_in c (program_sector 0)) d → told.pages ≡ d.pages → told.length ≡ d.length → told.crc ≡ crc_of (content d.length (program c d.pages))
    → Stood c app told
app_measured c app d told holds described pages long crc =
    let x = holds.described in
    let same : x.0 ≡ d = one_descriptor (page_in c (program_sector 0)) x.0 d x.1 described in
    let here : app.pages ≡ program c d.pages = x.4 ∙ ap (λ (e : Details). program c e.pages) same in
    record {
      measures = measured (λ p. page_in c (program_sector p)) app.pages d told described here pages long crc;
      memory = ap (program c) pages ∙ sym here;
    }

-- an image that is kept whole has its descriptor
pub record Whole (c : List ℕ) (image : ℕ) (h : Held) : Type 0 where
  pub said : Details
  pub described : IsDescriptor (page_in c (page_sector image 0)) said
  pub image_is : said.image ≡ image
  pub version_is : said.version ≡ h.version
  pub pages_is : said.pages ≡ length h.complete
  pub stored : h.complete ≡ slot_pages c image said.pages

pub whole_image : (c : List ℕ) (image : ℕ) (h : Held) → KeepsImage c image h → IsWhole h → Whole c image h
whole_image c image h keeps whole =
    let some : 0 < length h.complete = omega (arith, keeps.header.some, whole) in
    let first = keeps.first some in
    let d = first.described in
    let pages : d.0.pages ≡ length h.complete = d.4 ∙ sym whole in
    record { said = d.0; described = d.1; image_is = d.2; version_is = d.3; pages_is = pages; stored = keeps.stored ∙ ap (slot_pages c image) (sym pages) }

-- its pages were copied
pub record Loads (old new : List ℕ) (image : ℕ) (h : Held) (told : Loaded) : Type 0 where
  pub holds : HoldsApp new (app_from image h)
  pub measures : Measures h.complete told
  pub memory : program new told.pages ≡ h.complete

pub loads : (old new : List ℕ) (image : ℕ) (h : Held) (d : Details) (told : Loaded) → Whole old image h → IsDescriptor (page_in old (page_sector image 0)) d → ((p : ℕ) → p < d.pages → page_in new (program_sector p) ≡ page_in old (page_sector image p))
    → told.pages ≡ d.pages → told.length ≡ d.length → told.crc ≡ crc_of (content d.length (slot_pages old image d.pages)) → Loads old new image h told
loads old new image h d told whole described copied pages long crc =
    let same : whole.said ≡ d = one_descriptor (page_in old (page_sector image 0)) whole.said d whole.described described in
    let some : 0 < d.pages = omega (arith, described.head.range.pages) in
    let here : h.complete ≡ slot_pages old image d.pages = whole.stored ∙ ap (λ (e : Details). slot_pages old image e.pages) same in
    let there : slot_pages old image d.pages ≡ program new d.pages = same_tables d.pages (λ p. page_in old (page_sector image p)) (λ p. page_in new (program_sector p)) (λ p l. sym (copied p l)) in
    record {
      holds = record {
        described = (
          d,
          subst (λ (x : List ℕ). IsDescriptor x d) (sym (copied 0 some)) described,
          ap (λ (e : Details). e.image) (sym same) ∙ whole.image_is,
          ap (λ (e : Details). e.version) (sym same) ∙ whole.version_is,
          here ∙ there,
        );
      };
      measures = measured (λ p. page_in old (page_sector image p)) h.complete d told described here pages long crc;
      memory = ap (program new) pages ∙ sym (here ∙ there);
    }
