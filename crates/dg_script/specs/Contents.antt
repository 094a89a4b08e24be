-- Names, contents and masks: the fields of a line that are bytes (docs/SCRIPTS.md, "The script").
use Rattle.std.specs.Prelude.{ℕ, ◌+◌, ◌*◌, ◌/◌, ◌%◌, nat_le, ◌&&◌, if◌then◌else◌, List, length, take, drop, codes, Option, None}
use Rattle.std.specs.Prelude.{Result}
use Rattle.dg_words.specs.Lists.{tabulate}
use Rattle.dg_base.specs.Numbers.{number_of}
use Rattle.dg_base.specs.Hexadecimal.{hex_bytes}
use Rattle.dg_base.specs.Texts.{spells_name}
use Rattle.dg_base.specs.Sizes.{longest_mask}
use Rattle.dg_script.specs.Results.{◌>>?◌, kept_if, ◌>>=◌, guarded, or_fault}
use Rattle.dg_script.specs.declared.fault.LineFault.{LineFault}
use Rattle.dg_script.specs.declared.fault.LineFault.TheVariants.{Name, Content, Mask}
use Rattle.dg_script.specs.Sizes.{most_content}
use Rattle.dg_script.specs.Words.{same, halves_of}

-- the bytes of a name
unfoldable pub spelled_name : List ℕ → Result (List ℕ) LineFault
spelled_name word = guarded (spells_name word) Name word

-- byte j of those that a seed generates
abbrev pub generated_byte : (seed j : ℕ) → ℕ
generated_byte seed j = (seed + 31 * j + j / 256) % 256

-- the first of them
unfoldable pub generated : (len seed : ℕ) → List ℕ
generated len seed = tabulate len (generated_byte seed)

-- a length and a seed, with a colon between them
unfoldable pub generated_of : List ℕ → Option (List ℕ)
generated_of fields =
    halves_of fields >>? λ h. number_of h.0 >>? λ len. number_of h.1 >>? λ seed. kept_if (nat_le len most_content)
    (generated len seed)

-- a content is `hex:` and digits, or `gen:`, a length and a seed
unfoldable pub content_of : List ℕ → Option (List ℕ)
content_of word =
    if same (take 4 word) (codes "hex:") then hex_bytes (drop 4 word)
    else if same (take 4 word) (codes "gen:") then generated_of (drop 4 word)
    else None

-- the bytes, if there are least to most of them
abbrev pub sized : (fault : LineFault) → (least most : ℕ) → List ℕ → Result (List ℕ) LineFault
sized fault least most bytes = guarded (nat_le least (length bytes) && nat_le (length bytes) most) fault bytes

-- a content of an allowed length
unfoldable pub sized_content : (least most : ℕ) → List ℕ → Result (List ℕ) LineFault
sized_content least most word = or_fault Content (content_of word) >>= sized Content least most

-- the digits of 1 to 2,048 bytes
unfoldable pub spelled_mask : List ℕ → Result (List ℕ) LineFault
spelled_mask word = or_fault Mask (hex_bytes word) >>= sized Mask 1 longest_mask
