-- A number's decimal text: how it is made digit by digit, that it says the number and no other text does, and how long it is. Assumes nothing.
use Prim.Native.Nat.{ℕ, zero, suc, ◌+◌, ◌-◌, ◌*◌, ◌/◌, ◌%◌, ◌^◌, ◌≤◌, ◌<◌}
use mathlib.Core.Path.{◌≡◌, refl, sym, ap, ap₂, ◌∙◌}
use mathlib.Core.List.{List, [], ◌∷◌, ◌++◌}
use native.Mathlib.Nat.{mod-lt, div-add-mod', div-lt_iff_lt-mul, pow-suc}
use native.Mathlib.Decide.{dec_lt}
use native.Mathlib.Omega.{arith}
use lib.ListN.{length, get_or, take, length-append, get_or-append}
use lib.Seq.{get_or-append_seam, take_all, take-suc, length-take-le, get_or-take}
use borrow.Author.Tests.{lt-ltb, le-ltb}
use Rattle.printing.specs.Decimal.{digit, digits_in, decimal, read_on, Says}

-- ten times a tenth, and the last digit
tenth : (n : ℕ) → n / 10 * 10 + n % 10 ≡ n
tenth n = div-add-mod' n 10

last_digit : (n : ℕ) → n % 10 < 10
last_digit n = mod-lt n (omega arith)

pub tenth_some : (n : ℕ) → 10 ≤ n → 0 < n / 10
tenth_some n h = omega (arith, tenth n, last_digit n)

tenth_less : (n : ℕ) → 10 ≤ n → n / 10 < n
tenth_less n h = omega (arith, tenth n)

-- more places than n has change nothing
digits_same : (k j n : ℕ) → n < k → n < j → digits_in k n ≡ digits_in j n
unfolding digits_in
digits_same zero j n a b = absurd (omega arith)
digits_same (suc k) zero n a b = absurd (omega arith)
digits_same (suc k) (suc j) n a b = elim (dec_lt n 10) [
  | yes l ↦ rw (lt-ltb n 10 l)
  | no l ↦
      let h : 10 ≤ n = omega arith in
      rw (le-ltb n 10 h) (ap (λ (l : List ℕ). l ++ (digit (n % 10) ∷ [])) (digits_same k j (n / 10) (omega (arith, tenth_less n h)) (omega (arith, tenth_less n h))))
]

pub decimal_small : (n : ℕ) → n < 10 → decimal n ≡ digit n ∷ []
unfolding decimal digits_in
decimal_small n l = rw (lt-ltb n 10 l)

pub decimal_more : (n : ℕ) → 10 ≤ n → decimal n ≡ decimal (n / 10) ++ (digit (n % 10) ∷ [])
unfolding decimal digits_in
decimal_more n h = rw (le-ltb n 10 h) (ap (λ (l : List ℕ). l ++ (digit (n % 10) ∷ [])) (digits_same n (suc (n / 10)) (n / 10) (tenth_less n h) (omega arith)))

-- what holds of a digit, and of a number where it holds of its tenth, holds of every number
by_digits : (P : ℕ → Type 0) → ((n : ℕ) → n < 10 → P n) → ((n : ℕ) → 10 ≤ n → P (n / 10) → P n) → (k n : ℕ) → n < k → P n
by_digits P small more zero n l = absurd (omega arith)
by_digits P small more (suc k) n l = elim (dec_lt n 10) [
  | yes s ↦ small n s
  | no s ↦ let h : 10 ≤ n = omega arith in more n h (by_digits P small more k (n / 10) (omega (arith, tenth_less n h)))
]

read_more : (text : List ℕ) (seen c : ℕ) → read_on seen (text ++ (c ∷ [])) ≡ read_on seen text * 10 + (c - 48)
unfolding read_on
read_more [] seen c = refl
read_more (x ∷ text) seen c = read_more text (seen * 10 + (x - 48)) c

reads_small : (n : ℕ) → n < 10 → read_on 0 (decimal n) ≡ n
unfolding read_on
reads_small n l = rw (decimal_small n l) (omega arith)

reads_more : (n : ℕ) → 10 ≤ n → read_on 0 (decimal (n / 10)) ≡ n / 10 → read_on 0 (decimal n) ≡ n
reads_more n h e = rw (decimal_more n h, read_more, e) (omega (arith, tenth n))

pub some_digit : (n : ℕ) → 0 < length (decimal n)
some_digit n = by_digits (λ (m : ℕ). 0 < length (decimal m))
    (λ m l. omega (arith, ap length (decimal_small m l)))
    (λ m h e. omega (arith, ap length (decimal_more m h), length-append (decimal (m / 10)) (digit (m % 10) ∷ [])))
    (suc n) n (omega arith)

abbrev IsDigit : List ℕ → ℕ → Type 0
IsDigit text i = (48 ≤ get_or text i 0) × (get_or text i 0 ≤ 57)

one_digit : (d i : ℕ) → d < 10 → i < 1 → IsDigit (digit d ∷ []) i
one_digit d i l b = let z : i ≡ 0 = omega arith in rw z (omega arith, omega arith)

digit_behind : (text : List ℕ) (d : ℕ) → d < 10 → ((i : ℕ) → i < length text → IsDigit text i) → (i : ℕ) → i < length (text ++ (digit d ∷ [])) → IsDigit (text ++ (digit d ∷ [])) i
digit_behind text d l h i b = elim (dec_lt i (length text)) [
  | yes s ↦ rw (get_or-append text (digit d ∷ []) 0 i s) (h i s)
  | no s ↦
      let e : i ≡ length text = omega (arith, length-append text (digit d ∷ [])) in
      rw (e, get_or-append_seam text (digit d) [] 0) (omega arith, omega arith)
]

all_digits : (n i : ℕ) → i < length (decimal n) → IsDigit (decimal n) i
all_digits n = by_digits (λ (m : ℕ). (i : ℕ) → i < length (decimal m) → IsDigit (decimal m) i)
    (λ m l. rw (decimal_small m l) (λ i b. one_digit m i l b))
    (λ m h e. rw (decimal_more m h) (digit_behind (decimal (m / 10)) (m % 10) (last_digit m) e))
    (suc n) n (omega arith)

no_zero_first : (n : ℕ) → 0 < n → 48 < get_or (decimal n) 0 0
no_zero_first n = by_digits (λ (m : ℕ). 0 < m → 48 < get_or (decimal m) 0 0)
    (λ m l p. rw (decimal_small m l) (omega arith))
    (λ m h e p. rw (decimal_more m h, get_or-append (decimal (m / 10)) (digit (m % 10) ∷ []) 0 0 (some_digit (m / 10))) (e (omega (arith, tenth m, last_digit m))))
    (suc n) n (omega arith)

-- a text of more than one digit is that of a number over 9
pub says : (n : ℕ) → Says n (decimal n)
says n = record {
  reads = by_digits (λ (m : ℕ). read_on 0 (decimal m) ≡ m) reads_small reads_more (suc n) n (omega arith);
  digits = all_digits n;
  something = some_digit n;
  lead = λ b. elim (dec_lt n 10) [
    | yes l ↦ absurd (omega (arith, ap length (decimal_small n l)))
    | no l ↦ no_zero_first n (omega arith)
  ];
}

-- what was seen is never lost
seen_kept : (text : List ℕ) (seen : ℕ) → seen ≤ read_on seen text
unfolding read_on
seen_kept [] seen = omega arith
seen_kept (c ∷ text) seen = omega (arith, seen_kept text (seen * 10 + (c - 48)))

-- a text that begins with no zero says no zero
some_number : (text : List ℕ) → 0 < length text → 48 < get_or text 0 0 → 0 < read_on 0 text
unfolding read_on
some_number [] a b = absurd (omega arith)
some_number (c ∷ text) a b = omega (arith, b, seen_kept text (0 * 10 + (c - 48)))

-- one digit alone
only_small : (text : List ℕ) (n : ℕ) → length text ≡ 1 → Says n text → text ≡ decimal n
unfolding read_on
only_small [] n e w = absurd (omega arith)
only_small (c ∷ d ∷ text) n e w = absurd (omega arith)
only_small (c ∷ []) n e w =
    let b = w.digits 0 (omega arith) in
    let r : c ≡ digit n = omega (arith, w.reads, b.0) in
    rw (decimal_small n (omega (arith, w.reads, b.0, b.1)), r)

-- the text without its last digit says a tenth of the number
module _ (text : List ℕ) (n j : ℕ) (e : length text ≡ suc (suc j)) (w : Says n text) where
  abbrev front : List ℕ
  front = take (suc j) text

  abbrev end : ℕ
  end = get_or text (suc j) 0

  parts : text ≡ front ++ (end ∷ [])
  parts = sym (take_all (suc (suc j)) text (omega arith)) ∙ take-suc text (suc j) 0 (omega arith)

  front_long : length front ≡ suc j
  front_long = length-take-le (suc j) text (omega arith)

  front_at : (i : ℕ) → i < suc j → get_or front i 0 ≡ get_or text i 0
  front_at i l = get_or-take (suc j) text i 0 l

  both_read : read_on 0 front * 10 + (end - 48) ≡ n
  both_read = sym (read_more front 0 end) ∙ ap (read_on 0) (sym parts) ∙ w.reads

  front_says : Says (n / 10) front
  front_says = record {
    reads = let d = w.digits (suc j) (omega arith) in omega (arith, both_read, tenth n, last_digit n, d.0, d.1);
    digits = λ i l. let b : i < suc j = omega (arith, front_long) in rw (front_at i b) (w.digits i (omega arith));
    something = omega (arith, front_long);
    lead = λ l. rw (front_at 0 (omega arith)) (w.lead (omega arith));
  }

  over_nine : 10 ≤ n
  over_nine =
      let first : 48 < get_or front 0 0 = rw (front_at 0 (omega arith)) (w.lead (omega arith)) in
      omega (arith, both_read, some_number front (omega (arith, front_long)) first)

  end_is : end ≡ digit (n % 10)
  end_is = let d = w.digits (suc j) (omega arith) in omega (arith, both_read, front_says.reads, tenth n, d.0)

only_of : (k : ℕ) (text : List ℕ) (n : ℕ) → length text ≡ suc k → Says n text → text ≡ decimal n
only_of zero text n e w = only_small text n e w
only_of (suc j) text n e w =
    parts text n j e w
    ∙ ap₂ (λ (front : List ℕ) (end : ℕ). front ++ (end ∷ [])) (only_of j (front text n j e w) (n / 10) (front_long text n j e w) (front_says text n j e w)) (end_is text n j e w)
    ∙ sym (decimal_more n (over_nine text n j e w))

-- no other text says the number
pub says_only : (n : ℕ) (text : List ℕ) → Says n text → text ≡ decimal n
says_only n text w = only_of (length text - 1) text n (omega (arith, w.something)) w

-- k + 1 digits hold n
pub decimal_short : (k n : ℕ) → n < 10 ^ suc k → length (decimal n) ≤ suc k
decimal_short zero n l = omega (arith, ap length (decimal_small n (omega arith)))
decimal_short (suc k) n l = elim (dec_lt n 10) [
  | yes s ↦ omega (arith, ap length (decimal_small n s))
  | no s ↦
      let h : 10 ≤ n = omega arith in
      let t : n / 10 < 10 ^ suc k = (div-lt_iff_lt-mul {k = 10} (omega arith)).1 (rw pow-suc at l) in
      omega (arith, ap length (decimal_more n h), length-append (decimal (n / 10)) (digit (n % 10) ∷ []), decimal_short k (n / 10) t)
]
