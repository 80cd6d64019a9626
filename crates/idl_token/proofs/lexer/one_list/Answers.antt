use Rattle.idl_token.proofs.OneList.{one_lex}
use Rattle.idl_token.proofs.lexer.one_list.Goals as goal

pub returns : goal.returns
returns c = one_lex
