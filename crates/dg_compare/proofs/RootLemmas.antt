-- Whether a root names what is kept, as the chain that is seen shows.
use Rattle.std.proofs.Common.{◌≡◌, ℕ, ◌≤◌, Bool, true, false, List, [], ◌∷◌, length, get_or, drop, Option, Some, None, cond, refl, sym, ap, ◌∙◌, subst, arith, eqb-true, eq-eqb}
use Rattle.std.specs.Prelude.{◌==◌, ◌↔◌, if◌then◌else◌, IsSomeAnd, IsTrue}
use Rattle.std.proofs.lemmas.Bool.{cases_eq, ne_eqb}
use Rattle.sha2.specs.Sha256.{sha256}
use Rattle.dg_slot.specs.Kept.{Held}
use Rattle.dg_chain.specs.Checking.{Answer, Fine, Broken, Misshapen, Break, answer_of, by_break, first_break, field_of, is_same}
use Rattle.dg_chain.proofs.WalkLemmas.{same_true}
use Rattle.dg_inspect.specs.Pages.{root_in, chain_by, chain_in, ShowsKept, ShowsHeld}
use Rattle.dg_inspect.proofs.PageLemmas.{if_true, if_false}
use Rattle.dg_inspect.specs.declared.seen.ChainSeen.{ChainSeen}
use Rattle.dg_inspect.specs.declared.seen.ImageSeen.{ImageSeen}

-- the pages that a root names have it
fine_by : (b : Bool) (root : List ℕ) (page : List ℕ) (rest : Option Break) (at : Break) (pages : List (List ℕ)) (n : ℕ) → b ≡ is_same (sha256 page) root → by_break (if b then rest else Some at) pages ≡ Fine n → root ≡ sha256 page
fine_by true root page rest at pages n e h = sym (same_true (sha256 page) root (sym e))
fine_by false root page rest at pages n e h = absurd cc

pub fine_root : (root : List ℕ) (pages : List (List ℕ)) (n : ℕ) → answer_of root pages ≡ Fine n → root ≡ root_in pages
unfolding answer_of
fine_root root [] n h = absurd cc
fine_root root (page ∷ pages) n h = fine_by (is_same (sha256 page) root) root page (first_break (field_of page) 2 pages) _ (page ∷ pages) n refl h

-- the chain that is seen
chain_fine : (root : List ℕ) (a : Answer) (x : ChainSeen) → chain_by root a ≡ Some x → (n : ℕ) × (a ≡ Fine n) × (x.root ≡ root)
chain_fine root (Fine n) x h = let same : x ≡ record { root = root; length = n } = cc in (n, refl, ap (λ (y : ChainSeen). y.root) same)
chain_fine root (Broken at) x h = absurd cc
chain_fine root Misshapen x h = absurd cc

fine_chain : (root : List ℕ) (a : Answer) (n : ℕ) → a ≡ Fine n → chain_by root a ≡ Some (record { root = root; length = n })
fine_chain root (Fine m) n h = let same : m ≡ n = cc in ap (λ k. Some (record { root = root; length = k })) same
fine_chain root (Broken at) n h = absurd cc
fine_chain root Misshapen n h = absurd cc

-- the image is whole, and the root names its pages
abbrev pub Named : List ℕ → Held → Type 0
Named root g = (length g.complete ≡ g.pages) × ((n : ℕ) × (answer_of root (drop 1 g.complete) ≡ Fine n))

-- a chain is seen exactly where the image is whole and its first page's digest names it
pub seen_named : (g : Held) (x : ChainSeen) (root : List ℕ) → (if length g.complete == g.pages then chain_in (drop 1 g.complete) else None) ≡ Some x → root ≡ x.root → Named root g
seen_named g x root h e = by (length g.complete == g.pages) refl h
  where
    by : (b : Bool) → (length g.complete == g.pages) ≡ b → (if b then chain_in (drop 1 g.complete) else None) ≡ Some x → Named root g
    by true whole k =
        let found = chain_fine (root_in (drop 1 g.complete)) (answer_of (root_in (drop 1 g.complete)) (drop 1 g.complete)) x k in
        (eqb-true (length g.complete) g.pages whole, (found.0, ap (λ r. answer_of r (drop 1 g.complete)) (e ∙ found.2) ∙ found.1))
    by false whole k = absurd cc

pub named_seen : (g : Held) (root : List ℕ) → Named root g → (n : ℕ) × ((if length g.complete == g.pages then chain_in (drop 1 g.complete) else None) ≡ Some (record { root = root; length = n }))
named_seen g root named =
    let n = named.1.0 in
    let own : root ≡ root_in (drop 1 g.complete) = fine_root root (drop 1 g.complete) n named.1.1 in
    let fine : answer_of (root_in (drop 1 g.complete)) (drop 1 g.complete) ≡ Fine n = ap (λ r. answer_of r (drop 1 g.complete)) (sym own) ∙ named.1.1 in
    (n, if_true (length g.complete == g.pages) _ _ (eq-eqb (length g.complete) g.pages named.0) ∙ fine_chain (root_in (drop 1 g.complete)) _ n fine ∙ ap (λ r. Some (record { root = r; length = n })) (sym own))

-- ---- what is seen of a slot

pub not_kept : (h : Option Held) (o : Option ImageSeen) (root : List ℕ) → o ≡ None → ShowsKept h o → IsTrue false ↔ IsSomeAnd h (Named root)
not_kept None o root e shown = (λ no. absurd cc, λ no. absurd no)
not_kept (Some g) None root e shown = absurd shown
not_kept (Some g) (Some x) root e shown = absurd cc

pub not_chained : (h : Option Held) (o : Option ImageSeen) (x : ImageSeen) (root : List ℕ) → o ≡ Some x → x.chain ≡ None → ShowsKept h o → IsTrue false ↔ IsSomeAnd h (Named root)
not_chained None o x root e f shown = let no : None ≡ Some x = sym shown ∙ e in absurd cc
not_chained (Some g) None x root e f shown = absurd shown
not_chained (Some g) (Some y) x root e f shown =
    let same : y ≡ x = cc in
    let none : y.chain ≡ None = ap (λ (z : ImageSeen). z.chain) same ∙ f in
    let held : ShowsHeld g y = shown in
    (λ no. absurd cc, λ named. let found = named_seen g root named in let no : None ≡ Some (record { root = root; length = found.0 }) = sym none ∙ held.chain ∙ found.1 in absurd cc)

pub chained : (h : Option Held) (o : Option ImageSeen) (x : ImageSeen) (chain : ChainSeen) (root : List ℕ) (b : Bool) → o ≡ Some x → x.chain ≡ Some chain → IsTrue b ↔ (chain.root ≡ root) → ShowsKept h o → IsTrue b ↔ IsSomeAnd h (Named root)
chained None o x chain root b e f iff shown = let no : None ≡ Some x = sym shown ∙ e in absurd cc
chained (Some g) None x chain root b e f iff shown = absurd shown
chained (Some g) (Some y) x chain root b e f iff shown =
    let same : y ≡ x = cc in
    let some : y.chain ≡ Some chain = ap (λ (z : ImageSeen). z.chain) same ∙ f in
    let held : ShowsHeld g y = shown in
    let seen = sym held.chain ∙ some in (
      λ yes. seen_named g chain root seen (sym (iff.0 yes)),
      λ named.
          let found = named_seen g root named in
          let one : chain ≡ record { root = root; length = found.0 } = let both : Some chain ≡ Some (record { root = root; length = found.0 }) = sym seen ∙ found.1 in cc in
          iff.1 (ap (λ (z : ChainSeen). z.root) one),
    )
