-- what is there in parts, where the whole is there
use Rattle.std.proofs.Common.{◌≡◌, Bool, true, List, [], ◌∷◌, Option, Some, None, option_map, option_and_then, refl}
use Rattle.std.proofs.lemmas.Bool.{false≢true}
use Rattle.idl_tree.specs.declared.trees.Prefix.{Prefix}
use Rattle.sheet_rules.specs.Types.{passes, if_plain}
use Rattle.step_laws.specs.Given.{ThereIs}

pub no_some : {A : Type 0} (x : A) → ◌≡◌ {A = Option A} None (Some x) → ⊥
no_some x h = absurd (cc)

pub some_same : {A : Type 0} (x y : A) → ◌≡◌ {A = Option A} (Some x) (Some y) → x ≡ y
some_same x y h = cc

pub then_opened : {A B : Type 0} (f : A → Option B) (o : Option A) (y : B) → option_and_then f o ≡ Some y → ThereIs o (λ x. f x ≡ Some y)
then_opened f None y h = absurd (no_some y h)
then_opened f (Some x) y h = record { value = x; is = refl; so = h }

pub map_opened : {A B : Type 0} (f : A → B) (o : Option A) (y : B) → option_map f o ≡ Some y → ThereIs o (λ x. f x ≡ y)
map_opened f None y h = absurd (no_some y h)
map_opened f (Some x) y h = record { value = x; is = refl; so = some_same (f x) y h }

pub passed : {A : Type 0} (test : A → Bool) (o : Option A) → passes test o ≡ true → ThereIs o (λ x. test x ≡ true)
passed test None h = absurd (false≢true h)
passed test (Some x) h = record { value = x; is = refl; so = h }

pub passes_at : {A : Type 0} (test : A → Bool) (o : Option A) (x : A) → o ≡ Some x → passes test o ≡ true → test x ≡ true
passes_at test None x is h = absurd (no_some x is)
passes_at test (Some y) x is h = rw (← some_same y x is) h

pub passing : {A : Type 0} (test : A → Bool) (o : Option A) (x : A) → o ≡ Some x → test x ≡ true → passes test o ≡ true
passing test o x is h = rw is h

pub plain_is : {A : Type 0} (prefixes : List Prefix) (o : Option A) (x : A) → if_plain prefixes o ≡ Some x → prefixes ≡ []
plain_is [] o x h = refl
plain_is (prefix ∷ prefixes) o x h = absurd (no_some x h)

pub plain_found : {A : Type 0} (prefixes : List Prefix) (o : Option A) (x : A) → if_plain prefixes o ≡ Some x → o ≡ Some x
plain_found [] o x h = h
plain_found (prefix ∷ prefixes) o x h = absurd (no_some x h)
