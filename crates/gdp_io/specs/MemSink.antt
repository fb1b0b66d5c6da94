-- What a sink in memory shows beside what each sink does.
use Rattle.std.specs.Prelude.{ℕ, List}
use Rattle.gdp_io.specs.declared.memory.MemSink.{MemSink}

-- how many bytes a call takes at most
abbrev pub most_of : MemSink → ℕ
most_of sink = sink.most

-- how many bytes it takes in all
abbrev pub room_of : MemSink → ℕ
room_of sink = sink.room

-- the numbers of the calls that fail
abbrev pub failing_calls : MemSink → List ℕ
failing_calls sink = sink.calls.failing.items

-- how many calls were made
abbrev pub calls_made : MemSink → ℕ
calls_made sink = sink.calls.made
