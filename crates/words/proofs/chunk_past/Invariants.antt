-- `words::chunk_past` meets its contract. The loop's invariant: the bytes passed stand in the chunk.
use Rattle.std.proofs.Common.{◌≡◌, ◌<◌, ℕ, length, get_or}
use Rattle.words.proofs.chunk_past.Given as goal

abbrev pub invariant-loop-i : goal.invariant-loop-i
invariant-loop-i g l = record {
  long : length l.chunk ≡ l.i-end;
  same : (k : ℕ) → k < l.i → get_or l.chunk k 0 ≡ get_or l.rest k 0;
}
