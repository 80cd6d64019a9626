use Rattle.std.proofs.Common.{◌≡◌, [], ◌∷◌, Some, ap, ◌∙◌, arith}
use Rattle.json.specs.Token.{Token}
use Rattle.json.specs.Lex.{tokens}
use Rattle.json.specs.Reads.{token_of}
use Rattle.serde_json.specs.Data.{object}
use Rattle.caller_form.specs.Kinds.{tree_at}
use Rattle.caller_form.proofs.KindLemmas.{refuses_end}
use Rattle.caller_form.proofs.FoundLemmas.{json_read, json_and_more, json_refused, an_object, no_members_there, no_object, token_of-begin_object, not_json, not_object}
use Rattle.caller_form.proofs.members.members_of.Goals as goal

pub returns-in_err-token : goal.returns-in_err-token
returns-in_err-token c =
    let text = c.args.text.now in
    let empty : tokens text ≡ [] = grind arith in
    let told = not_json text (json_refused text (ap (tree_at 127) empty ∙ refuses_end 127)) in
    grind (arith, told)

pub returns-in_err-found : goal.returns-in_err-found
returns-in_err-found c =
    let text = c.args.text.now in
    let first : tokens text ≡ Token.begin_object ∷ c.next.new.self = grind arith in
    let told = not_json text (json_refused text (no_members_there text c.next.new.self first c.in_err-found.ensures)) in
    grind (arith, told)

pub returns-in_err-ends : goal.returns-in_err-ends
returns-in_err-ends c =
    let text = c.args.text.now in
    let first : tokens text ≡ Token.begin_object ∷ c.next.new.self = grind arith in
    let found = c.in_ok-found.ensures in
    let more = c.in_err-ends.ensures in
    let read = an_object text c.next.new.self c.find_members.new.reader found.0 first found.1 in
    let told = not_json text (json_and_more text (object found.0) more.0 more.1 (read ∙ ap (λ ts. Some (object found.0, ts)) more.2)) in
    grind (arith, told)

pub returns-in_ok-ends : goal.returns-in_ok-ends
returns-in_ok-ends c =
    let text = c.args.text.now in
    let first : tokens text ≡ Token.begin_object ∷ c.next.new.self = grind arith in
    let found = c.in_ok-found.ensures in
    let read = an_object text c.next.new.self c.find_members.new.reader found.0 first found.1 in
    (found.0, json_read text (object found.0) (read ∙ ap (λ ts. Some (object found.0, ts)) c.in_ok-ends.ensures), found.2)

pub returns-in_ok-ends-2 : goal.returns-in_ok-ends-2
returns-in_ok-ends-2 c =
    let text = c.args.text.now in
    let token = c.in_ok-token.token in
    let first : tokens text ≡ token_of token ∷ c.next.new.self = grind arith in
    let tree = c.in_ok-pass_token.ensures.passed in
    let read = ap (tree_at 127) first ∙ tree.1 ∙ ap (λ ts. Some (tree.0, ts)) c.in_ok-ends-2.ensures in
    let other = no_object (token_of token) 126 c.next.new.self c.pass_token.new.reader tree.0 (λ is. c.in_default-token.not-BeginObject (token_of-begin_object token is)) tree.1 in
    not_object text tree.0 (json_read text tree.0 read) other
