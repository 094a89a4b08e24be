-- How the verbs of signed images end (docs/COMMANDS.md, "Signed images").
use Rattle.std.specs.Prelude.{◌≡◌, ℕ, List, codes, Option, Some, None, Result, Ok, Err}
use Rattle.dg_base.specs.declared.answers.Status.{Status}
use Rattle.dg_base.specs.declared.answers.Status.TheVariants as statuses
use Rattle.dg_outside.specs.Outside.{Outside, SameLink}
use Rattle.dg_end.specs.Texts.{line}
use Rattle.dg_end.specs.Writes.{WritesLast}
use Rattle.dg_chain_tool.specs.Done.{ReceiveDone}
use Rattle.dg_xmss.specs.Signatures.{IsSignature}
use Rattle.dg_signed.specs.Finding.{line_of_release}
use Rattle.dg_signed.specs.declared.signed.SignedImage.{SignedImage}
use Rattle.dg_signed.specs.declared.finding.Unsigned.{Unsigned}
use Rattle.dg_signed.specs.declared.finding.Unsigned.TheVariants as unsigned

-- ---- an image that is not signed

abbrev pub unsigned_status : Unsigned → Status
unsigned_status unsigned.Memory = statuses.Memory
unsigned_status cause = statuses.Refused

abbrev pub unsigned_line : Unsigned → Option (List ℕ)
unsigned_line unsigned.Memory = None
unsigned_line (unsigned.Key fault) = Some (line (codes "refused key"))
unsigned_line (unsigned.Text fault) = Some (line (codes "refused signature"))
unsigned_line (unsigned.Signature fault) = Some (line (codes "refused signature"))

-- ---- verify

abbrev pub found_status : Result SignedImage Unsigned → Status
found_status (Ok signed) = statuses.Done
found_status (Err cause) = unsigned_status cause

abbrev pub found_line : Result SignedImage Unsigned → Option (List ℕ)
found_line (Ok signed) = None
found_line (Err cause) = unsigned_line cause

-- ---- receive

-- the signature is one of the image's line under the key
abbrev pub IsSigned : SignedImage → Type 0
IsSigned s = IsSignature s.key (line_of_release s.release) s.signature

-- An image that is signed is received; for any other one the last line is written, and nothing else is done.
abbrev pub ReceiveSigned : Result SignedImage Unsigned → (name : List ℕ) → Status → Outside → Outside → Type 0
ReceiveSigned (Ok s) name status a b =
    IsSigned s × ReceiveDone s.release.image s.release.version name s.release.root status a b
ReceiveSigned (Err cause) name status a b =
    WritesLast status (unsigned_status cause) (unsigned_line cause) a.output b.output × (b.input ≡ a.input)
    × (b.boards ≡ a.boards) × SameLink a b
