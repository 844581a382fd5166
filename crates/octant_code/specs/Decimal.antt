-- What a text of decimal digits reads as.
use Rattle.std.specs.Prelude.{◌&&◌, ℕ, Bool, List, length, nat_lt, if◌then◌else◌, Result, Ok, Err}
use Rattle.std.specs.Char.{is_ascii_digit}
use Rattle.std.specs.List.{list_all}
use Rattle.std.specs.Str.Parse.{digits_value}
use Rattle.octant_code.specs.declared.decimal.NumberFault.{NumberFault}
use Rattle.octant_code.specs.declared.decimal.NumberFault.TheVariants.{NotDigits, TooLarge}

-- whether a text is digits, and at least one
abbrev pub are_digits : List ℕ → Bool
are_digits bytes = nat_lt 0 (length bytes) && list_all is_ascii_digit bytes

-- the number that a text writes in decimal, where it is digits and the number is at most max
abbrev pub decimal_read : List ℕ → ℕ → Result ℕ NumberFault
decimal_read bytes max =
    if are_digits bytes then (if nat_lt max (digits_value 10 bytes) then Err TooLarge else Ok (digits_value 10 bytes))
    else Err NotDigits
