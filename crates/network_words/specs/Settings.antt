-- The commands that need the network, their options, and which of these take the word behind them.
use Rattle.std.specs.Prelude.{◌==◌, ◌&&◌, ℕ, Bool, true, false, List, [], ◌∷◌, codes, if◌then◌else◌, Option, Some, None}
use Rattle.std.specs.Str.{bytes_eq}
use Rattle.network_words.specs.declared.settings.Kind.{Kind}
use Rattle.network_words.specs.declared.settings.Kind.TheVariants as command
use Rattle.network_words.specs.declared.settings.Setting.{Setting}
use Rattle.network_words.specs.declared.settings.Setting.TheVariants as setting

abbrev pub Word : Type 0
Word = List ℕ

abbrev pub command_named : Word → Option Kind
command_named word = if bytes_eq word (codes "serve") then Some command.Serve
    else (if bytes_eq word (codes "resolver") then Some command.Resolver
    else (if bytes_eq word (codes "call") then Some command.Call
    else (if bytes_eq word (codes "resolve") then Some command.Resolve
    else (if bytes_eq word (codes "bridge") then Some command.Bridge else None))))

-- the word begins with `--`
abbrev pub is_option : Word → Bool
is_option [] = false
is_option (b ∷ []) = false
is_option (b ∷ c ∷ bytes) = (b == 45) && (c == 45)

abbrev pub setting_named : Word → Option Setting
setting_named word = if bytes_eq word (codes "--at") then Some setting.At
    else (if bytes_eq word (codes "--resolver") then Some setting.Resolver
    else (if bytes_eq word (codes "--to") then Some setting.To
    else (if bytes_eq word (codes "--child") then Some setting.Child
    else (if bytes_eq word (codes "--workers") then Some setting.Workers
    else (if bytes_eq word (codes "--connections") then Some setting.Connections
    else (if bytes_eq word (codes "--more") then Some setting.More
    else (if bytes_eq word (codes "--oneway") then Some setting.Oneway
    else (if bytes_eq word (codes "--typed") then Some setting.Typed
    else (if bytes_eq word (codes "--forget") then Some setting.Forget else None)))))))))

-- serve ADDRESS PATH [--workers N] [--connections N] [--forget]
-- resolver ADDRESS PATH [--workers N] [--connections N]
-- call (--at ADDRESS or --resolver ADDRESS) [--child PROGRAM] [--more] [--oneway] [--typed] METHOD [PARAMETERS]
-- resolve --resolver ADDRESS INTERFACE
-- bridge (--to ADDRESS or --resolver ADDRESS)
abbrev pub allows : Kind → Setting → Bool
allows command.Serve setting.Workers = true
allows command.Serve setting.Connections = true
allows command.Serve setting.Forget = true
allows command.Resolver setting.Workers = true
allows command.Resolver setting.Connections = true
allows command.Call setting.At = true
allows command.Call setting.Resolver = true
allows command.Call setting.Child = true
allows command.Call setting.More = true
allows command.Call setting.Oneway = true
allows command.Call setting.Typed = true
allows command.Resolve setting.Resolver = true
allows command.Bridge setting.To = true
allows command.Bridge setting.Resolver = true
allows kind other = false

abbrev pub takes_word : Setting → Bool
takes_word setting.More = false
takes_word setting.Oneway = false
takes_word setting.Typed = false
takes_word setting.Forget = false
takes_word other = true
