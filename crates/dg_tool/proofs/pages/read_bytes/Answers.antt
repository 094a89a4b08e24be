use Rattle.std.proofs.Common.{arith, ℕ}
use Rattle.dg_nor.proofs.ReadLemmas.{Looked-none}
use Rattle.dg_tool.proofs.ReadLemmas.{reads_err}
use Rattle.dg_tool.proofs.pages.read_bytes.Goals as goal

pub read_first-requires-clause-kept : goal.read_first-requires-clause-kept
read_first-requires-clause-kept g c =
    let h = c.requires.whole in
    (h.0, h.1, omega (arith, h.2, h.3, h.1.header.some))

pub returns-in_err-descriptor-clause-ends : goal.returns-in_err-descriptor-clause-ends
returns-in_err-descriptor-clause-ends g c = reads_err ℕ c.from_residual.result c.in_err-descriptor.field-0.0 _ _ _ c.from_residual.ensures.1 (Looked-none _) c.in_err-descriptor.ensures.ends

pub read_data-requires-clause-some : goal.read_data-requires-clause-some
read_data-requires-clause-some g c = let h = c.requires.whole in omega (arith, h.3, h.1.header.some)

pub read_data-requires-clause-known_pages : goal.read_data-requires-clause-known_pages
read_data-requires-clause-known_pages g c = let h = c.requires.whole in omega (arith, h.3, h.1.header.most)

pub returns-in_err-bytes-clause-ends : goal.returns-in_err-bytes-clause-ends
returns-in_err-bytes-clause-ends g c = reads_err ℕ c.from_residual-in_err-bytes.result c.in_err-bytes.field-0.0 _ _ _ c.from_residual-in_err-bytes.ensures.1 c.in_ok-descriptor.ensures.ends c.in_err-bytes.ensures.ends
