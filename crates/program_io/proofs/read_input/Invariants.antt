-- What was read so far lies within the buffer, whose length stays.
use Rattle.std.proofs.Common.{length, ◌-◌, ◌≡◌}
use Rattle.io.specs.Counts.{IsPrefixLen}
use Rattle.program_io.proofs.read_input.Given as goal

abbrev pub invariant-loop-count : goal.invariant-loop-count
invariant-loop-count g l = (length l.buffer ≡ length l.initial.buffer) × IsPrefixLen l.count l.buffer

abbrev pub decreases-loop-count : goal.decreases-loop-count
decreases-loop-count g l = length l.initial.buffer - l.count
