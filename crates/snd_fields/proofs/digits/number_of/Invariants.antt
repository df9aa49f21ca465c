use Rattle.std.proofs.Common.{◌≡◌, ◌-◌, ◌<◌, ◌^◌, drop, map}
use Rattle.std.specs.List.{list_all}
use Rattle.std.specs.Int.Digits.{number_from_digits_after}
use Rattle.snd_fields.specs.Decimal.{digits_number, is_digit}
use Rattle.snd_fields.proofs.digits.number_of.Given as goal

abbrev pub invariant-loop-digit : goal.invariant-loop-digit
invariant-loop-digit l = record {
  number : number_from_digits_after 10 l.number (map (λ c. c - 48) (drop l.digit-index l.text)) ≡ digits_number l.text;
  digits : list_all is_digit (drop l.digit-index l.text) ≡ list_all is_digit l.text;
  bound : l.number < 10 ^ l.digit-index;
}
