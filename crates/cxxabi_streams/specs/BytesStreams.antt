-- What is seen of the sources and sinks over bytes: what is left or taken, which of their calls fail, and how many bytes a sink may still take.
use Rattle.std.specs.Prelude.{ℕ, ◌+◌, ◌-◌, ◌^◌, min, List, drop}
use Rattle.cxxabi_streams.specs.declared.sources.BytesSource.{BytesSource}
use Rattle.cxxabi_streams.specs.declared.sources.SteadySource.{SteadySource}
use Rattle.cxxabi_streams.specs.declared.sinks.BytesSink.{BytesSink}

-- the bytes that are left
abbrev pub bytes_left : BytesSource → List ℕ
bytes_left source = drop source.at source.bytes.items

abbrev pub steady_left : SteadySource → List ℕ
steady_left source = drop source.at source.bytes.items

-- the bytes that were taken
abbrev pub bytes_taken : BytesSink → List ℕ
bytes_taken sink = sink.buffer.items

-- the faults so far
abbrev pub read_faults : BytesSource → ℕ
read_faults source = source.faults

abbrev pub write_faults : BytesSink → ℕ
write_faults sink = sink.faults

-- the numbers, from 1, of the calls of `read` that fail
abbrev pub failing_reads : BytesSource → List ℕ
failing_reads source = source.fails.items

-- the calls of `read` so far
abbrev pub reads_made : BytesSource → ℕ
reads_made source = source.calls

-- the numbers, from 1, of the calls of `write` that fail
abbrev pub failing_writes : BytesSink → List ℕ
failing_writes sink = sink.fails.items

-- the calls of `write` so far
abbrev pub writes_made : BytesSink → ℕ
writes_made sink = sink.calls

-- the bytes that may still be taken, of those that were reserved
abbrev pub room_of : BytesSink → ℕ
room_of sink = sink.room

-- one more of a count that stops at the last number of its type
abbrev pub one_more : ℕ → ℕ
one_more count = min (count + 1) (2 ^ 64 - 1)
