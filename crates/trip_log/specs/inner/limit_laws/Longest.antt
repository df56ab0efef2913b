-- How long the lines of a history's text can be, each with its LF.
use Rattle.std.specs.Prelude.{ℕ}

-- the most bytes of the line of a command: that of a late report that breaks 16 rides
abbrev pub longest_fed : ℕ
longest_fed = 400

-- the most bytes of the lines that open and close a batch of 128 requests and 1,000 vehicles
abbrev pub longest_batch : ℕ
longest_batch = 100000

-- the most bytes of the line of an end
abbrev pub longest_end : ℕ
longest_end = 7

-- the bytes of the head
abbrev pub longest_head : ℕ
longest_head = 22

-- the most ends: those of two feeds and two desks
abbrev pub most_ends : ℕ
most_ends = 4

-- the most bytes of a line without its LF: that of a commit of 128 requests, with 1,000 payments
abbrev pub longest_line : ℕ
longest_line = 58815
