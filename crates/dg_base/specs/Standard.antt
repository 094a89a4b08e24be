-- A source over a reader of std, and a sink over a writer (`Read` and `Write` of std).
use Rattle.std.specs.Prelude.{ℕ, ◌≤◌, List, length, take, Option}
use Rattle.std.specs.Io.KnownBytes.{Appends}
use Rattle.dg_base.specs.declared.standard.StdSource.{StdSource}
use Rattle.dg_base.specs.declared.standard.StdSink.{StdSink}

-- the reader, and the writer
abbrev pub reader_of : {R : Type 0} → StdSource R → R
reader_of source = source.reader

abbrev pub writer_of : {W : Type 0} → StdSink W → W
writer_of sink = sink.writer

-- how many reads, and writes, failed
abbrev pub faults_read : {R : Type 0} → StdSource R → ℕ
faults_read source = source.faults

abbrev pub faults_written : {W : Type 0} → StdSink W → ℕ
faults_written sink = sink.faults

-- The writer took a prefix of the bytes.
abbrev pub AppendsPrefix : Option (List ℕ) → Option (List ℕ) → List ℕ → Type 0
AppendsPrefix before after bytes = (n : ℕ) × (n ≤ length bytes) × Appends before after (take n bytes)
