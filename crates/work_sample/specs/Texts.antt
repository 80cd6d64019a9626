-- The sheet and the calls of the work of n, as texts. Methods are numbered from 1 to n.
use Rattle.std.specs.Prelude.{ℕ, zero, suc, ◌+◌, ◌*◌, ◌%◌, nat_lt, List, [], ◌∷◌, ◌++◌, codes, decimal, if◌then◌else◌}
use Rattle.std.specs.List.{flat_map}

-- the lists of the numbers below n, in order
unfoldable pub below : {T : Type 0} → (ℕ → List T) → ℕ → List T
below list zero = []
below list (suc n) = below list n ++ list n

-- ---- the numbers in the byte order of their digits: 1, 10, 11, .., 19, 2, 20, ..

-- the numbers up to `most` that begin with the digits of `first`, and have less than so many digits more
unfoldable pub under : ℕ → ℕ → ℕ → List ℕ
under zero most first = []
under (suc digits) most first =
    if nat_lt most first then [] else first ∷ below (λ digit. under digits most (first * 10 + digit)) 10

-- the numbers from 1 to `most`, which has at most five digits
unfoldable pub in_order : ℕ → List ℕ
in_order most = below (λ digit. under 5 most (digit + 1)) 9

-- ---- the sheet

-- a method in the definition, where \n stands for a line feed
unfoldable pub method_text : ℕ → List ℕ
method_text k = codes "\\n\\nmethod M" ++ decimal k ++ codes "(a: int) -> (b: int)"

-- a method's rule: it adds `a` to the register, and replies with the register
unfoldable pub rule_text : ℕ → List ℕ
rule_text k =
    codes "\"org.example.work.M" ++ decimal k
    ++ codes "\":{\"outcome\":{\"reply\":{\"struct\":{\"b\":{\"register\":[\"total\"]}}}},\"steps\":[{\"set\":\"total\",\"to\":{\"sum\":[{\"register\":[\"total\"]},{\"param\":[\"a\"]}]}}]}"

-- a rule behind a comma
unfoldable pub next_rule : ℕ → List ℕ
next_rule k = codes "," ++ rule_text k

-- the rules of methods, with commas between them
unfoldable pub rules_text : List ℕ → List ℕ
rules_text [] = []
rules_text (k ∷ ks) = rule_text k ++ flat_map next_rule ks

unfoldable pub before_methods : List ℕ
before_methods = codes "{\"interfaces\":[\"interface org.example.work"

unfoldable pub before_rules : List ℕ
before_rules =
    codes "\\n\"],\"product\":\"Work\",\"registers\":[{\"initial\":0,\"name\":\"total\",\"scope\":\"org.example.work\",\"type\":\"int\"}],\"rules\":{"

unfoldable pub behind_rules : List ℕ
behind_rules = codes "},\"sheet\":1,\"url\":\"https://example.org\",\"vendor\":\"Example\",\"version\":\"1\"}"

-- the sheet: compact JSON, in which the names of members are in the byte order
unfoldable pub work_sheet : ℕ → List ℕ
work_sheet n =
    before_methods ++ below (λ k. method_text (k + 1)) n ++ before_rules ++ rules_text (in_order n) ++ behind_rules

-- ---- the calls

-- one call, whose number is the last digit of its method's
unfoldable pub call_text : ℕ → List ℕ
call_text k =
    codes "{\"method\":\"org.example.work.M" ++ decimal k ++ codes "\",\"parameters\":{\"a\":" ++ decimal (k % 10) ++ codes "}}\0"

-- a call of each method
unfoldable pub work_calls : ℕ → List ℕ
work_calls n = below (λ k. call_text (k + 1)) n
