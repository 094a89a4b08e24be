-- How far after a line bytes go (docs/PROMISES.md, "How it ends").
use Rattle.std.specs.Prelude.{ℕ, zero, suc, ◌≤◌, ◌==◌, if◌then◌else◌, List, [], ◌∷◌, length}
use Rattle.dg_script.specs.Sizes.{most_kept}

-- the bytes after the first LF
unfoldable pub behind_line : List ℕ → List ℕ
behind_line [] = []
behind_line (c ∷ cs) = if c == 10 then cs else behind_line cs

-- the bytes after this many lines
unfoldable pub behind_lines : ℕ → List ℕ → List ℕ
behind_lines zero bytes = bytes
behind_lines (suc n) bytes = behind_line (behind_lines n bytes)

-- no more than 300,002 bytes stand after this line
abbrev pub FewBytesBehind : (line : ℕ) → List ℕ → Type 0
FewBytesBehind line bytes = length (behind_lines line bytes) ≤ most_kept
