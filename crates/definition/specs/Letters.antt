-- The letters and the numbers that stand for kinds, each named once.
use Rattle.std.specs.Prelude.{ℕ}

-- Records, signature: 'T fields, then P, then F'.
abbrev pub letter_t : ℕ
letter_t = 84

abbrev pub letter_p : ℕ
letter_p = 80

abbrev pub letter_f : ℕ
letter_f = 70

-- Records, rule: 'N', 'S, then E, R, A, V, I', 'then M, K, X'.
abbrev pub letter_n : ℕ
letter_n = 78

abbrev pub letter_s : ℕ
letter_s = 83

abbrev pub letter_e : ℕ
letter_e = 69

abbrev pub letter_r : ℕ
letter_r = 82

abbrev pub letter_a : ℕ
letter_a = 65

abbrev pub letter_v : ℕ
letter_v = 86

abbrev pub letter_i : ℕ
letter_i = 73

abbrev pub letter_m : ℕ
letter_m = 77

abbrev pub letter_k : ℕ
letter_k = 75

abbrev pub letter_x : ℕ
letter_x = 88

-- Records, group: 'G', 'W', 'per rule U, B, H'.
abbrev pub letter_g : ℕ
letter_g = 71

abbrev pub letter_w : ℕ
letter_w = 87

abbrev pub letter_u : ℕ
letter_u = 85

abbrev pub letter_b : ℕ
letter_b = 66

abbrev pub letter_h : ℕ
letter_h = 72

-- No field's letter: where a record begins.
abbrev pub start : ℕ
start = 0

-- Records, group: 'Kinds: 0 predicate, 1 function, 2 member, 3 Equality, 4 TypeSet (B only), 5 FuncDomain (H only).'
abbrev pub predicate : ℕ
predicate = 0

abbrev pub function : ℕ
function = 1

abbrev pub member : ℕ
member = 2

abbrev pub equality : ℕ
equality = 3

abbrev pub type_set : ℕ
type_set = 4

abbrev pub func_domain : ℕ
func_domain = 5

-- Bytes of the printed names.
abbrev pub digit_zero : ℕ
digit_zero = 48

abbrev pub digit_nine : ℕ
digit_nine = 57

abbrev pub underscore : ℕ
underscore = 95
