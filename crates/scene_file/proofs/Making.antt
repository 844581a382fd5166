-- The points of codes, and that the bodies of a made scene keep the rule of bodies.
use Rattle.std.proofs.Common.{ℕ, ◌+◌, ◌-◌, ◌*◌, ◌/◌, ◌%◌, ◌^◌, ◌<◌, ◌≤◌, ◌≡◌, ◌≢◌, ◌∙◌, [], ◌∷◌, ◌++◌, length, zero, suc, sym, ap, refl, arith, inl}
use Rattle.std.proofs.Common.{inr, length-append, add-one}
use Rattle.std.proofs.Math.Nat.{div-div-eq-div-mul, eq-or-lt_of_le, mul_comm, pow-suc, pow-succ'}
use Rattle.std.proofs.Math.Seq.{get_or-append_seam}
use Rattle.std.proofs.lemmas.List.{get_or-map, get_or_append_left, length-map}
use Rattle.std.proofs.Math.ListN.{get_or}
use Rattle.octant_code.specs.Points.{site_at}
use Rattle.octant_code.specs.Space.{IsInCube, bit_at, key_of, octant_of, origin}
use Rattle.octant_code.proofs.Keys.{key-suc, octant-bits}
use Rattle.scene_file.proofs.BodyLists.{total_mass-push}
use Rattle.scene_file.specs.Bodies.{AreBodies, sites_of, total_mass}
use Rattle.scene_file.specs.Made.{code_of, every_third, made_bodies, made_body, site_of_code}
use Rattle.scene_file.specs.declared.bodies.Body.{Body}
use Rattle.scene_file.specs.declared.made.Shape.{Shape}
use Rattle.scene_file.specs.declared.made.Shape.TheVariants as shape

-- divisions may be made in either order
swap_div : (c m n : ℕ) → c / m / n ≡ c / n / m
swap_div c m n = div-div-eq-div-mul c m n ∙ ap (λ y. c / y) (mul_comm m n) ∙ sym (div-div-eq-div-mul c n m)

-- the definitions, case by case
pub third-zero : (code : ℕ) → every_third zero code ≡ 0
unfolding every_third
third-zero code = refl

pub third-suc : (count code : ℕ) → every_third (suc count) code ≡ 2 * every_third count (code / 8) + code % 2
unfolding every_third
third-suc count code = refl

-- what is left of the digits above the lowest
pub third_high : (k n c : ℕ) → every_third (k + n) c / 2 ^ k ≡ every_third n (c / 8 ^ k)
third_high zero n c =
    let whole : c / 1 ≡ c = omega arith in
    let count : 0 + n ≡ n = omega arith in
    let below : every_third n c / 1 ≡ every_third n c = omega arith in
    ap (λ y. every_third y c / 1) count ∙ below ∙ ap (λ y. every_third n y) (sym whole)
third_high (suc k) n c =
    let two : 2 ^ suc k ≡ 2 * 2 ^ k = pow-succ' 2 k in
    let eight : 8 ^ suc k ≡ 8 * 8 ^ k = pow-succ' 8 k in
    let count : suc k + n ≡ suc (k + n) = omega arith in
    let halved : every_third (suc (k + n)) c / 2 ≡ every_third (k + n) (c / 8) = omega (arith, third-suc (k + n) c) in
    ap (λ y. every_third y c / 2 ^ suc k) count
    ∙ ap (λ y. every_third (suc (k + n)) c / y) two
    ∙ sym (div-div-eq-div-mul (every_third (suc (k + n)) c) 2 (2 ^ k))
    ∙ ap (λ y. y / 2 ^ k) halved
    ∙ third_high k n (c / 8)
    ∙ ap (λ y. every_third n y) (div-div-eq-div-mul c 8 (8 ^ k) ∙ ap (λ y. c / y) (sym eight))

-- a number of so many binary digits
pub third_small : (n c : ℕ) → every_third n c < 2 ^ n
third_small zero c = omega (arith, third-zero c)
third_small (suc n) c = omega (arith, third_small n (c / 8), third-suc n c, pow-succ' 2 n)

-- the bit of a level
bit_of_third : (c level : ℕ) → level < 21 → bit_at (every_third 21 c) level ≡ c / 8 ^ (20 - level) % 2
bit_of_third c level less =
    let count : 21 ≡ (20 - level) + suc level = omega arith in
    let m = 20 - level in
    let high : every_third 21 c / 2 ^ m ≡ every_third (suc level) (c / 8 ^ m) = ap (λ y. every_third y c / 2 ^ m) count ∙ third_high m (suc level) c in
    let odd : every_third (suc level) (c / 8 ^ m) % 2 ≡ c / 8 ^ m % 2 = omega (arith, third-suc level (c / 8 ^ m)) in
    ap (λ y. y % 2) high ∙ odd

-- the octants of a code's point are the code's octal digits
pub octant_of_code : (code level : ℕ) → level < 21 → octant_of (site_of_code code) level ≡ code / 8 ^ (20 - level) % 8
octant_of_code code level less =
    let m = 8 ^ (20 - level) in
    let x : bit_at (every_third 21 (code / 4)) level ≡ code / m / 4 % 2 = bit_of_third (code / 4) level less ∙ ap (λ y. y % 2) (swap_div code 4 m) in
    let y : bit_at (every_third 21 (code / 2)) level ≡ code / m / 2 % 2 = bit_of_third (code / 2) level less ∙ ap (λ y. y % 2) (swap_div code 2 m) in
    let z : bit_at (every_third 21 code) level ≡ code / m % 2 = bit_of_third code level less in
    let d : ℕ = code / m in
    let sum : 4 * (d / 4 % 2) + 2 * (d / 2 % 2) + d % 2 ≡ d % 8 = omega arith in
    octant-bits (site_of_code code) level ∙ rw (x, y, z) sum

-- the key of a code's point
key_of_code : (code level : ℕ) → code < 8 ^ 21 → level ≤ 21 → key_of (site_of_code code) level ≡ 8 ^ level + code / 8 ^ (21 - level)
unfolding key_of
key_of_code code zero small deep = let none : code / 8 ^ 21 ≡ 0 = omega arith in ap (λ y. 1 + y) (sym none)
key_of_code code (suc level) small deep =
    let up = key_of_code code level small (omega arith) in
    let d : ℕ = code / 8 ^ (20 - level) in
    let next : 21 - level ≡ suc (20 - level) = omega arith in
    let above : code / 8 ^ (21 - level) ≡ d / 8 = ap (λ y. code / 8 ^ y) next ∙ ap (λ y. code / y) (pow-suc 8 (20 - level))
    ∙ sym (div-div-eq-div-mul code (8 ^ (20 - level)) 8) in
    let power : 8 ^ suc level ≡ 8 * 8 ^ level = pow-succ' 8 level in
    let same : 21 - suc level ≡ 20 - level = omega arith in
    let sum : 8 * (8 ^ level + d / 8) + d % 8 ≡ 8 * 8 ^ level + d = omega arith in
    key-suc (site_of_code code) level
    ∙ ap (λ y. 8 * y + octant_of (site_of_code code) level) (up ∙ ap (λ y. 8 ^ level + y) above)
    ∙ ap (λ y. 8 * (8 ^ level + d / 8) + y) (octant_of_code code level (omega arith))
    ∙ sum ∙ ap (λ y. y + d) (sym power) ∙ ap (λ y. 8 ^ suc level + code / 8 ^ y) (sym same)

-- codes of one point are one
one_code : (a b : ℕ) → a < 8 ^ 21 → b < 8 ^ 21 → site_of_code a ≡ site_of_code b → a ≡ b
one_code a b a_small b_small same =
    let keys : 8 ^ 21 + a / 1 ≡ 8 ^ 21 + b / 1 = sym (key_of_code a 21 a_small (omega arith)) ∙ ap (λ s. key_of s 21) same
    ∙ key_of_code b 21 b_small (omega arith) in
    omega (arith, keys)

-- codes are codes of points
code_small : (form : Shape) (seed i : ℕ) → code_of form seed i < 8 ^ 21
code_small shape.Uniform seed i = omega arith
code_small shape.Corner seed i = omega arith

-- the codes of two bodies differ, since the multiplier is odd
codes_differ : (form : Shape) (seed i j : ℕ) → i < j → j < 65536 → code_of form seed i ≢ code_of form seed j
codes_differ shape.Uniform seed i j less small same = omega (arith, same)
codes_differ shape.Corner seed i j less small same = omega (arith, same)

-- one digit more, as they are read from the highest on
pub third_more : (code level : ℕ) → level < 21
    → every_third (level + 1) (code / 2 ^ (3 * (21 - (level + 1)))) ≡ 2 * every_third level (code / 2 ^ (3 * (21 - level))) + code / 2 ^ (3 * (20 - level)) % 2
third_more code level less =
    let m = 3 * (20 - level) in
    let last : 3 * (21 - (level + 1)) ≡ m = omega arith in
    let next : 3 * (21 - level) ≡ suc (suc (suc m)) = omega arith in
    let eight : 2 ^ suc (suc (suc m)) ≡ 2 ^ m * 8 = omega (arith, pow-suc 2 m, pow-suc 2 (suc m), pow-suc 2 (suc (suc m))) in
    let above : code / 2 ^ (3 * (21 - level)) ≡ code / 2 ^ m / 8 = ap (λ y. code / 2 ^ y) next ∙ ap (λ y. code / y) eight
    ∙ sym (div-div-eq-div-mul code (2 ^ m) 8) in
    ap (λ y. every_third (level + 1) (code / 2 ^ y)) last ∙ ap (λ y. every_third y (code / 2 ^ m)) (add-one level)
    ∙ third-suc level (code / 2 ^ m) ∙ ap (λ y. 2 * every_third level y + code / 2 ^ m % 2) (sym above)

-- how many bodies there are
pub made-length : (count seed : ℕ) (form : Shape) → length (made_bodies count seed form) ≡ count
unfolding made_bodies
made-length zero seed form = refl
made-length (suc count) seed form = omega (arith, length-append (made_bodies count seed form) (made_body form seed count ∷ []), made-length count seed form)

-- one body more
pub made-more : (count seed : ℕ) (form : Shape) → made_bodies (count + 1) seed form ≡ made_bodies count seed form ++ made_body form seed count ∷ []
unfolding made_bodies
made-more count seed form = ap (λ y. made_bodies y seed form) (add-one count)

-- no body
pub made-none : (seed : ℕ) (form : Shape) → made_bodies 0 seed form ≡ []
unfolding made_bodies
made-none seed form = refl

-- the body of each number
made-at : (count seed : ℕ) (form : Shape) (i : ℕ) (d : Body) → i < count → get_or (made_bodies count seed form) i d ≡ made_body form seed i
unfolding made_bodies
made-at zero seed form i d less = absurd (omega arith)
made-at (suc count) seed form i d less =
    let long = made-length count seed form in
    let last = made_body form seed count in
    elim (eq-or-lt_of_le (let h : i ≤ count = omega arith in h)) [
      | inr before ↦ get_or_append_left (made_bodies count seed form) (last ∷ []) d i (omega (arith, long)) ∙ made-at count seed form i d before
      | inl here ↦ rw here (ap (λ y. get_or (made_bodies count seed form ++ last ∷ []) y d) (sym long)
          ∙ get_or-append_seam (made_bodies count seed form) last [] d)
    ]

-- the point of each number
pub made-site : (count seed : ℕ) (form : Shape) (i : ℕ) → i < count → site_at (sites_of (made_bodies count seed form)) i ≡ site_of_code (code_of form seed i)
made-site count seed form i less =
    get_or-map (λ (b : Body). b.at) (made_bodies count seed form) i (made_body form seed i) origin (omega (arith, made-length count seed form))
    ∙ ap (λ (b : Body). b.at) (made-at count seed form i (made_body form seed i) less)

-- the mass of all
made-mass : (count seed : ℕ) (form : Shape) → total_mass (made_bodies count seed form) ≤ 16 * count
unfolding made_bodies
made-mass zero seed form = omega arith
made-mass (suc count) seed form =
    omega (arith, total_mass-push (made_bodies count seed form) (made_body form seed count), made-mass count seed form)

-- the point of a code lies in the cube
pub code_in_cube : (code : ℕ) → IsInCube (site_of_code code)
code_in_cube code = record { x_fits = third_small 21 (code / 4); y_fits = third_small 21 (code / 2); z_fits = third_small 21 code }

-- the bodies of a made scene keep the rule of bodies
pub made_rule : (count seed : ℕ) (form : Shape) → count ≤ 65536 → AreBodies (made_bodies count seed form)
made_rule count seed form few =
    let bodies = made_bodies count seed form in
    let long = made-length count seed form in
    let sites = length-map bodies (λ (b : Body). b.at) in
    record {
      few = omega (arith, long);
      massive = λ i d within. rw (made-at count seed form i d (omega (arith, long))) (omega arith);
      total = omega (arith, made-mass count seed form);
      apart = λ i j less within same.
          let j_in : j < count = omega (arith, long, sites) in
          codes_differ form seed i j less (omega arith)
          (one_code (code_of form seed i) (code_of form seed j) (code_small form seed i) (code_small form seed j)
          (sym (made-site count seed form i (omega arith)) ∙ same ∙ made-site count seed form j j_in));
      in_cube = λ i d within.
          let i_in : i < count = omega (arith, long, sites) in
          rw (get_or-map (λ (b : Body). b.at) bodies i (made_body form seed i) d (omega (arith, long)), made-at count seed form i (made_body form seed i) i_in)
          (code_in_cube (code_of form seed i));
    }

-- the octants of the bodies of a made scene are the digits of their codes
pub made_octants : (count seed : ℕ) (form : Shape) (i level : ℕ) → i < count → level < 21
    → octant_of (site_at (sites_of (made_bodies count seed form)) i) level ≡ code_of form seed i / 8 ^ (20 - level) % 8
made_octants count seed form i level less deep =
    ap (λ s. octant_of s level) (made-site count seed form i less) ∙ octant_of_code (code_of form seed i) level deep
