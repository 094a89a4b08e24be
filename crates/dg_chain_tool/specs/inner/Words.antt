-- Words of private contracts and proofs.
use Rattle.std.specs.Prelude.{ℕ, List}
use Rattle.std.specs.Prelude.{Option}
use Rattle.dg_object.specs.Object.{Row}
use Rattle.dg_volume.specs.Store.{Store, held}
use Rattle.dg_volume.specs.Changes.{inject_refusal}
use Rattle.dg_tool.specs.Endings.{VerbEnding, by_store}
use Rattle.dg_chain_tool.specs.Receiving.{foreign_in}
use Rattle.dg_chain_tool.specs.Verbs.{check_by, receive_ending}
use Rattle.std.specs.Prelude.{◌==◌, if◌then◌else◌, drop}
use Rattle.dg_chain.specs.Checking.{Break, first_break}
use Rattle.dg_chain_tool.specs.Receiving.{expected}
use Rattle.std.specs.Prelude.{◌++◌, codes}
use Rattle.dg_base.specs.Hexadecimal.{hex_text}
use Rattle.dg_ihex.specs.Written.{written_file}
use Rattle.dg_chain.specs.Chain.{root_of, joined_pages}
use Rattle.dg_end.specs.Texts.{line}

abbrev pub check_on : (image : ℕ) → (root : List ℕ) → Option Store → VerbEnding
check_on image root chip = by_store chip (λ s. check_by root (held s image))

abbrev pub receive_to : (root : List ℕ) → Row → Store → VerbEnding
receive_to root row s = receive_ending row (inject_refusal s row) (foreign_in root s row)

abbrev pub receive_into : (root : List ℕ) → Row → Option Store → VerbEnding
receive_into root row chip = by_store chip (receive_to root row)

-- the first foreign page from page n on
abbrev pub foreign_from : (root : List ℕ) → List (List ℕ) → ℕ → Option Break
foreign_from root pages n = first_break (expected root pages n) n (drop n pages)

-- the first page that is compared where this many are complete: page 0 has no digest that is expected of it
abbrev pub compared_from : ℕ → ℕ
compared_from done = if done == 0 then 1 else done

-- the first foreign one of the pages that are filled, where this many are complete
abbrev pub first_foreign : (root : List ℕ) → List (List ℕ) → (done : ℕ) → Option Break
first_foreign root pages done = foreign_from root pages (compared_from done)

-- the root of a payload in lower case, and then the HEX file of its image
abbrev pub wrapped_text : List ℕ → List ℕ
wrapped_text x = line (codes "root " ++ hex_text (root_of x)) ++ written_file (joined_pages x)
