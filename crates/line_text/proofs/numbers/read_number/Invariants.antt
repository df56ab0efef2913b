use Rattle.line_text.proofs.Common.{◌≡◌, ◌<◌, ◌≤◌, ◌^◌, length, drop, all_ascii_digits, digits_value, digits_value_after}
use Rattle.line_text.proofs.numbers.read_number.Given as goal

-- the value so far goes on to the value of all digits
abbrev pub invariant-loop-byte : goal.invariant-loop-byte
invariant-loop-byte l = record {
  some : 0 < length l.text;
  short : length l.text ≤ 18;
  value : digits_value_after 10 l.value (drop l.byte-index l.text) ≡ digits_value 10 l.text;
  digits : all_ascii_digits (drop l.byte-index l.text) ≡ all_ascii_digits l.text;
  small : l.value < 10 ^ l.byte-index;
}
