-- What was left is what was copied, and then what is left now.
use Rattle.std.proofs.Common.{◌≡◌, ℕ, ◌+◌, ◌-◌, List, ◌++◌, length, Some, sym, ap, ◌∙◌, take, drop}
use Rattle.std.proofs.lemmas.List.{drop-drop, take-append-drop, take_rest}
use Rattle.dg_base.specs.Memory.{Input}
use Rattle.dg_base.proofs.memory.MemSourceSource.read.Goals as goal

parted : (bytes slice copied : List ℕ) (at count : ℕ) → slice ≡ bytes → copied ≡ take count (take (length slice - at) (drop at slice)) → drop at bytes ≡ copied ++ drop (at + count) bytes
parted bytes slice copied at count same e =
    let found : copied ≡ take count (drop at bytes) = e ∙ ap (take count) (take_rest slice at) ∙ ap (λ xs. take count (drop at xs)) same in
    sym (take-append-drop count (drop at bytes)) ∙ ap (λ xs. take count (drop at bytes) ++ xs) (drop-drop count at bytes)
    ∙ ap (λ xs. xs ++ drop (at + count) bytes) (sym found)

pub returns-clause-bytes : goal.returns-clause-bytes
returns-clause-bytes c =
    ap (λ (v : Input). Some v.left) (sym c.self.view_is)
    ∙ ap Some (parted c.self.inside.bytes.items _ _ c.self.inside.at c.copy_prefix-count.result c.deref-2.ensures.value c.copy_prefix-count.ensures.front)
