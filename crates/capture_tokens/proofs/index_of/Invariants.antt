use Rattle.std.proofs.Common.{◌≡◌, ◌≤◌}
use Rattle.capture_tokens.specs.Tokens.{words_of, index_of}
use Rattle.capture_tokens.proofs.Index.{left, shifted}
use Rattle.capture_tokens.proofs.index_of.Given as goal

abbrev pub invariant-loop-n : goal.invariant-loop-n
invariant-loop-n l = record { same : shifted l.n (left l.list l.t l.at) ≡ index_of (words_of l.list) l.t; further : l.n ≤ l.at }
